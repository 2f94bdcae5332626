-- Histories as lists of events (Herlihy and Wing 1990; that a call may fail, and a process end, is this project's own).
use Rattle.std.specs.Prelude.{◌≡◌, ℕ, ◌+◌, ◌==◌, Bool, true, false, Option, Some, None, List, [], ◌∷◌, filter, map, if◌then◌else◌}

-- An event of a process: it calls an operation of an object; its pending call returns with a reply; its pending call
-- fails, so that it is as if it had not been made; or the process ends, so that its pending call stays pending. Objects
-- go by their index in the order of declaration.
pub data Event (Op Reply : Type 0) : Type 0 where
  calls : ℕ → ℕ → Op → Event Op Reply
  returns_ : ℕ → ℕ → Reply → Event Op Reply
  fails : ℕ → ℕ → Event Op Reply
  ends : ℕ → ℕ → Event Op Reply

-- A call of a history, with the numbers of its call event and, where it is completed, of its return event.
pub record Call (Op Reply : Type 0) : Type 0 where
  pub process : ℕ
  pub object : ℕ
  pub op : Op
  pub called : ℕ
  pub returned : Option (ℕ × Reply)

-- How a call went on: it is pending; it stays pending, as its process has ended; it failed; or it was replied to, by the
-- return event of this number.
pub data Outcome (Reply : Type 0) : Type 0 where
  pending : Outcome Reply
  unknown : Outcome Reply
  failed : Outcome Reply
  replied : ℕ → Reply → Outcome Reply

-- A call that was made, with the number of its call event and how it went on.
pub record Made (Op Reply : Type 0) : Type 0 where
  pub process : ℕ
  pub object : ℕ
  pub op : Op
  pub called : ℕ
  pub outcome : Outcome Reply

-- The process of an event.
abbrev pub process_of : {Op Reply : Type 0} → Event Op Reply → ℕ
process_of (calls process object op) = process
process_of (returns_ process object reply) = process
process_of (fails process object) = process
process_of (ends process object) = process

-- The events of one process, in their order.
abbrev pub events_of : {Op Reply : Type 0} → ℕ → List (Event Op Reply) → List (Event Op Reply)
events_of process events = filter (λ e. process_of e == process) events

-- The events of a process by itself are sequential: a call, its return or its failure on the same object, a call, and so
-- on, with at most the last call pending; where the process ended with that call, no event comes after it.
abbrev pub IsSequential : {Op Reply : Type 0} → List (Event Op Reply) → Type 0
IsSequential [] = Unit {0}
IsSequential (calls p object op ∷ []) = Unit {0}
IsSequential (calls p object op ∷ returns_ q on reply ∷ events) = (object ≡ on) × IsSequential events
IsSequential (calls p object op ∷ fails q on ∷ events) = (object ≡ on) × IsSequential events
IsSequential (calls p object op ∷ ends q on ∷ []) = object ≡ on
IsSequential (calls p object op ∷ ends q on ∷ event ∷ events) = ⊥
IsSequential (calls p object op ∷ calls q on next ∷ events) = ⊥
IsSequential (returns_ p object reply ∷ events) = ⊥
IsSequential (fails p object ∷ events) = ⊥
IsSequential (ends p object ∷ events) = ⊥

-- A history is well-formed where each process by itself is sequential.
abbrev pub IsWellFormed : {Op Reply : Type 0} → List (Event Op Reply) → Type 0
IsWellFormed events = (process : ℕ) → IsSequential (events_of process events)

-- How many events have a number: calls and returns.
abbrev pub numbered : {Op Reply : Type 0} → List (Event Op Reply) → ℕ
numbered [] = 0
numbered (calls p object op ∷ events) = numbered events + 1
numbered (returns_ p object reply ∷ events) = numbered events + 1
numbered (fails p object ∷ events) = numbered events
numbered (ends p object ∷ events) = numbered events

-- How a call of the process went on, by the first event after it that is its process's and no call, where the first call
-- or return after it has number n: in a well-formed history that event is of this call.
abbrev pub outcome_after : {Op Reply : Type 0} → ℕ → ℕ → List (Event Op Reply) → Outcome Reply
outcome_after process n [] = pending
outcome_after process n (calls p object op ∷ events) = outcome_after process (n + 1) events
outcome_after process n (returns_ p object reply ∷ events) = if p == process then replied n reply else outcome_after process (n + 1) events
outcome_after process n (fails p object ∷ events) = if p == process then failed else outcome_after process n events
outcome_after process n (ends p object ∷ events) = if p == process then unknown else outcome_after process n events

-- The calls that the events make, in the order of their call events, where the first call or return has number n.
abbrev pub made_from : {Op Reply : Type 0} → ℕ → List (Event Op Reply) → List (Made Op Reply)
made_from n [] = []
made_from n (calls p object op ∷ events) =
    (record { process = p; object = object; op = op; called = n; outcome = outcome_after p (n + 1) events }) ∷ made_from (n + 1) events
made_from n (returns_ p object reply ∷ events) = made_from (n + 1) events
made_from n (fails p object ∷ events) = made_from n events
made_from n (ends p object ∷ events) = made_from n events

-- The call did not fail.
abbrev pub has_not_failed : {Reply : Type 0} → Outcome Reply → Bool
has_not_failed pending = true
has_not_failed unknown = true
has_not_failed failed = false
has_not_failed (replied number reply) = true

-- The number of the return event with the reply, where the call is completed.
abbrev pub return_in : {Reply : Type 0} → Outcome Reply → Option (ℕ × Reply)
return_in pending = None
return_in unknown = None
return_in failed = None
return_in (replied number reply) = Some (number, reply)

-- The call is one of the history.
abbrev pub is_kept : {Op Reply : Type 0} → Made Op Reply → Bool
is_kept m = has_not_failed m.outcome

-- A call that was made, as a call of a history.
abbrev pub call_of : {Op Reply : Type 0} → Made Op Reply → Call Op Reply
call_of m = record { process = m.process; object = m.object; op = m.op; called = m.called; returned = return_in m.outcome }

-- The calls of the history in which these were made: those that did not fail.
abbrev pub calls_of : {Op Reply : Type 0} → List (Made Op Reply) → List (Call Op Reply)
calls_of made = map call_of (filter is_kept made)

-- The calls of the events, in the order of their call events, where the first call or return has number n.
abbrev pub calls_from : {Op Reply : Type 0} → ℕ → List (Event Op Reply) → List (Call Op Reply)
calls_from n events = calls_of (made_from n events)
