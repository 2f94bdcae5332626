-- What is recorded so far: the objects that were declared and the calls that were made, also those that failed. By it is
-- told what may come next.
use Rattle.std.specs.Prelude.{◌≡◌, ℕ, ◌+◌, ◌<◌, ◌==◌, ◌||◌, ℤ, Bool, true, false, not, Option, Some, None, is_none, is_some, option_map, option_and_then, List, [], ◌∷◌, ◌++◌, map, length, filter, find, position, slice_get, bytes_eq, nat_le, if◌then◌else◌}
use Rattle.lin_history.specs.declared.limits.TheConstants.{MAX_CALLS, MAX_CALLS_ON_OBJECT, MAX_OBJECTS}
use Rattle.lin_object.specs.declared.kind.Kind.{Kind}
use Rattle.lin_object.specs.declared.op.Op.{Op}
use Rattle.lin_object.specs.declared.reply.Reply.{Reply}
use Rattle.lin_history.specs.declared.recorder.fault.BuildFault.{BuildFault}
use Rattle.lin_history.specs.declared.recorder.fault.BuildFault.TheVariants.{BadName, Declared, UnknownObject, ProcessEnded, Busy, NoCall, OtherObject, TooManyObjects, TooManyCalls}
use Rattle.lin_history.specs.Recorder.Names.{is_name}
use Rattle.lin_history.specs.Recorder.Events.{Event, Outcome, pending, unknown, failed, replied, Made, IsWellFormed, numbered, made_from, calls_of}
use Rattle.lin_history.specs.Recorder.RecordedHistory.{DeclaredObject, RecordedHistory}

-- The objects in the order of declaration, the calls that were made in the order of their call events, and how many call
-- and return events there are.
pub record Recording : Type 0 where
  pub objects : List DeclaredObject
  pub made : List (Made Op Reply)
  pub events : ℕ

-- The recording of no event.
abbrev pub no_event : Recording
no_event = record { objects = []; made = []; events = 0 }

-- This is the recording of these events: they are well-formed, the calls are those that they make, and each is on an
-- object that is declared.
pub record IsRecordingOf (events : List (Event Op Reply)) (r : Recording) : Type 0 where
  pub well_formed : IsWellFormed events
  pub made_are : r.made ≡ made_from 1 events
  pub count : r.events ≡ numbered events
  pub declared : (i : ℕ) (m : Made Op Reply) → slice_get r.made i ≡ Some m → m.object < length r.objects

-- It is the recording of some events.
abbrev pub IsRecording : Recording → Type 0
IsRecording r = (events : List (Event Op Reply)) × IsRecordingOf events r

-- The history that is recorded: without the calls that failed.
abbrev pub history_of : Recording → RecordedHistory
history_of r = record { objects = r.objects; calls = calls_of r.made; events = r.events }

-- ---- what is in the recording so far

-- The index of the object of this name.
abbrev pub index_named : Recording → List ℕ → Option ℕ
index_named r name = position (λ o. bytes_eq name o.name) r.objects

-- The kind of the object of this name.
abbrev pub kind_named : Recording → List ℕ → Option Kind
kind_named r name = option_and_then (λ i. option_map (λ o. o.kind) (slice_get r.objects i)) (index_named r name)

-- The call is pending.
abbrev pub is_pending : {Reply : Type 0} → Outcome Reply → Bool
is_pending pending = true
is_pending unknown = false
is_pending failed = false
is_pending (replied number reply) = false

-- Its process has ended with the call.
abbrev pub is_unknown : {Reply : Type 0} → Outcome Reply → Bool
is_unknown pending = false
is_unknown unknown = true
is_unknown failed = false
is_unknown (replied number reply) = false

-- It is the pending call of the process.
abbrev pub is_pending_of : {Op Reply : Type 0} → ℕ → Made Op Reply → Bool
is_pending_of process m = if m.process == process then is_pending m.outcome else false

-- It is a call of the process that has neither returned nor failed.
abbrev pub is_last_of : {Op Reply : Type 0} → ℕ → Made Op Reply → Bool
is_last_of process m = if m.process == process then is_pending m.outcome || is_unknown m.outcome else false

-- The call of the process that has neither returned nor failed: it is pending, or the process has ended with it.
abbrev pub last_call : Recording → ℕ → Option (Made Op Reply)
last_call r process = find (is_last_of process) r.made

-- The process has ended with this call.
abbrev pub has_ended : Option (Made Op Reply) → Bool
has_ended None = false
has_ended (Some m) = is_unknown m.outcome

-- The call is on the object.
abbrev pub is_made_on : {Op Reply : Type 0} → ℕ → Made Op Reply → Bool
is_made_on object m = m.object == object

-- How many of the calls are on the object.
abbrev pub count_made_on : ℕ → List (Made Op Reply) → ℕ
count_made_on object made = length (filter (is_made_on object) made)

-- ---- what the next event is refused for, in order

-- Why a declaration of this name is refused.
abbrev pub declaration_refusals : Recording → List ℕ → List (Bool × BuildFault)
declaration_refusals r name =
    (not (is_name name), BadName)
    ∷ (is_some (index_named r name), Declared)
    ∷ (nat_le MAX_OBJECTS (length r.objects), TooManyObjects)
    ∷ []

-- There is no room for one call more on the object. Calls that failed count.
abbrev pub is_full : Recording → Option ℕ → Bool
is_full r None = false
is_full r (Some object) = nat_le MAX_CALLS (length r.made) || nat_le MAX_CALLS_ON_OBJECT (count_made_on object r.made)

-- Why a call of the process on the object of this name is refused.
abbrev pub call_refusals : Recording → ℕ → List ℕ → List (Bool × BuildFault)
call_refusals r process name =
    (not (is_name name), BadName)
    ∷ (is_none (index_named r name), UnknownObject)
    ∷ (has_ended (last_call r process), ProcessEnded process)
    ∷ (is_some (last_call r process), Busy process)
    ∷ (is_full r (index_named r name), TooManyCalls)
    ∷ []

-- The call is on another object.
abbrev pub is_elsewhere : Option ℕ → Option (Made Op Reply) → Bool
is_elsewhere None call = false
is_elsewhere (Some object) None = false
is_elsewhere (Some object) (Some call) = not (is_made_on object call)

-- Why a return, a failure or the end of the process, with its pending call on the object of this name, is refused.
abbrev pub end_refusals : Recording → ℕ → List ℕ → List (Bool × BuildFault)
end_refusals r process name =
    (not (is_name name), BadName)
    ∷ (is_none (index_named r name), UnknownObject)
    ∷ (has_ended (last_call r process), ProcessEnded process)
    ∷ (is_none (last_call r process), NoCall process)
    ∷ (is_elsewhere (index_named r name) (last_call r process), OtherObject process)
    ∷ []

-- ---- the recording with one event more

-- With one object more.
abbrev pub with_object : Recording → List ℕ → Kind → ℤ → Recording
with_object r name kind start = record r { objects = r.objects ++ (record { name = name; kind = kind; start = start }) ∷ [] }

-- With one call more, which is pending.
abbrev pub with_call : Recording → ℕ → ℕ → Op → Recording
with_call r process object op = record r {
  made = r.made ++ (record { process = process; object = object; op = op; called = r.events + 1; outcome = pending }) ∷ [];
  events = r.events + 1;
}

-- The call, which went on so if it is the pending one of the process.
abbrev pub settled : {Op Reply : Type 0} → ℕ → Outcome Reply → Made Op Reply → Made Op Reply
settled process outcome m = if is_pending_of process m then record m { outcome = outcome } else m

-- With the return of the pending call of the process.
abbrev pub with_return : Recording → ℕ → Reply → Recording
with_return r process reply = record r { made = map (settled process (replied (r.events + 1) reply)) r.made; events = r.events + 1 }

-- With the failure of the pending call of the process.
abbrev pub with_fail : Recording → ℕ → Recording
with_fail r process = record r { made = map (settled process failed) r.made }

-- With the end of the process, whose pending call stays pending.
abbrev pub with_end : Recording → ℕ → Recording
with_end r process = record r { made = map (settled process unknown) r.made }
