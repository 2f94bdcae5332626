-- A problem: the part of a history on one object (Herlihy and Wing 1990), as contracts see it.
use Rattle.std.specs.Prelude.{◌≡◌, ◌≢◌, ℕ, ◌<◌, Bool, false, not, max, nat_le, Option, Some, None, is_none, List, [], ◌∷◌, ◌++◌, length, slice_get, slice_set}
use Rattle.lin_history.specs.declared.limits.TheConstants.{MAX_CALLS_ON_OBJECT}
use Rattle.lin_history.specs.declared.problems.problem.ProblemCall.{ProblemCall}
use Rattle.lin_history.specs.declared.problems.problem.ProblemFault.{ProblemFault}
use Rattle.lin_history.specs.declared.problems.problem.ProblemFault.TheVariants.{Late, NoCall, TooManyCalls}

-- The object, its state at the start, and the calls on it, numbered from 0 by their call events.
pub record ProblemParts (Object State Op Reply : Type 0) : Type 0 where
  pub object : Object
  pub start : State
  pub calls : List (ProblemCall Op Reply)

-- The greatest event number of a call.
abbrev pub number_of : {Op Reply : Type 0} → ProblemCall Op Reply → Option (ℕ × Reply) → ℕ
number_of c None = c.called
number_of c (Some r) = max c.called r.0

-- The greatest event number of these calls, 0 where there is none.
abbrev pub greatest_number : {Op Reply : Type 0} → List (ProblemCall Op Reply) → ℕ
greatest_number [] = 0
greatest_number (c ∷ cs) = max (number_of c c.returned) (greatest_number cs)

-- The numbers of a problem's events: calls stand in the order of their call events, each returns after it was called, and
-- no return event is a call event.
pub record AreTimed {Op Reply : Type 0} (calls : List (ProblemCall Op Reply)) : Type 0 where
  pub called : (a b : ℕ) (x y : ProblemCall Op Reply) → a < b → slice_get calls a ≡ Some x → slice_get calls b ≡ Some y → x.called < y.called
  pub returned : (a : ℕ) (x : ProblemCall Op Reply) (r : ℕ × Reply) → slice_get calls a ≡ Some x → x.returned ≡ Some r → x.called < r.0
  pub apart : (a b : ℕ) (x y : ProblemCall Op Reply) (r : ℕ × Reply) → slice_get calls a ≡ Some x → slice_get calls b ≡ Some y → x.returned ≡ Some r → r.0 ≢ y.called

-- The call is there and has not returned.
abbrev pub is_pending : {Op Reply : Type 0} → Option (ProblemCall Op Reply) → Bool
is_pending None = false
is_pending (Some c) = is_none c.returned

-- Why a problem refuses a call whose event has this number, in order.
abbrev pub new_call_refusals : {Object State Op Reply : Type 0} → ProblemParts Object State Op Reply → ℕ → List (Bool × ProblemFault)
new_call_refusals p number =
    (nat_le number (greatest_number p.calls), Late)
    ∷ (nat_le MAX_CALLS_ON_OBJECT (length p.calls), TooManyCalls)
    ∷ []

-- Why a problem refuses a return of the call whose event has this number, in order.
abbrev pub new_return_refusals : {Object State Op Reply : Type 0} → ProblemParts Object State Op Reply → ℕ → ℕ → List (Bool × ProblemFault)
new_return_refusals p call number =
    (nat_le number (greatest_number p.calls), Late)
    ∷ (not (is_pending (slice_get p.calls call)), NoCall)
    ∷ []

-- The problem with one call more, which is pending.
abbrev pub with_new_call : {Object State Op Reply : Type 0} → ProblemParts Object State Op Reply → ℕ → Op → ℕ → ProblemParts Object State Op Reply
with_new_call p process op number = record p { calls = p.calls ++ (record { process = process; op = op; called = number; returned = None }) ∷ [] }

-- The calls, of which this one has returned at this number with this reply.
abbrev pub returned_in : {Op Reply : Type 0} → List (ProblemCall Op Reply) → ℕ → ℕ → Reply → Option (ProblemCall Op Reply) → List (ProblemCall Op Reply)
returned_in calls call number reply None = calls
returned_in calls call number reply (Some c) = slice_set calls call (record c { returned = Some (number, reply) })

-- The problem in which the call has returned.
abbrev pub with_new_return : {Object State Op Reply : Type 0} → ProblemParts Object State Op Reply → ℕ → Reply → ℕ → ProblemParts Object State Op Reply
with_new_return p call reply number = record p { calls = returned_in p.calls call number reply (slice_get p.calls call) }
