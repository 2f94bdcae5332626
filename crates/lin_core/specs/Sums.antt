-- Replies of a counter's gets for which its adds leave no room, whatever the order is (this project's own).
use Rattle.std.specs.Prelude.{◌≡◌, ℕ, ◌+◌, ◌<◌, ℤ, pos, ◌+ℤ◌, ◌-ℤ◌, ◌<ℤ◌, nat_lt, nat_le, Bool, true, false, not, ◌&&◌, Option, Some, None, List, [], ◌∷◌, slice_get, if◌then◌else◌}
use Rattle.lin_object.specs.declared.op.Op.{Op}
use Rattle.lin_object.specs.declared.op.Op.TheVariants.{Get}
use Rattle.lin_object.specs.declared.reply.Reply.{Reply}
use Rattle.lin_object.specs.declared.reply.Reply.TheVariants.{Int}
use Rattle.lin_object.specs.declared.state.ObjState.{ObjState}
use Rattle.lin_object.specs.declared.state.ObjState.TheVariants.{Counter}
use Rattle.lin_history.specs.declared.problems.problem.ProblemCall.{ProblemCall}
use Rattle.lin_history.specs.Problems.Problem.{Problem}
use Rattle.lin_laws.specs.Shares.{share_of}
use Rattle.lin_core.specs.declared.sum_faults.Times.{Times}
use Rattle.lin_core.specs.declared.sum_faults.Between.{Between}
use Rattle.lin_core.specs.declared.sum_faults.SumFault.{SumFault}
use Rattle.lin_core.specs.Cores.{HasNone}

-- A call returned before the event; a pending one did not.
abbrev pub is_back_before : ℕ → Option (ℕ × Reply) → Bool
is_back_before event None = false
is_back_before event (Some r) = nat_lt r.0 event

-- The event came after the earlier get returned, or after the start.
abbrev pub is_after : Option Times → ℕ → Bool
is_after None event = true
is_after (Some first) event = nat_lt first.returned event

-- A call returned before the earlier get was called; none did before the start.
abbrev pub is_over : Option Times → Option (ℕ × Reply) → Bool
is_over None returned = false
is_over (Some first) returned = is_back_before first.called returned

-- In each order the call comes between the two gets: it was called after the one returned, and returned before the other was
-- called.
abbrev pub must_come : Between → ProblemCall Op Reply → Bool
must_come between x = is_after between.first x.called && is_back_before between.last.called x.returned

-- It may come between them: it did not return before the one was called, and was called before the other returned.
abbrev pub may_come : Between → ProblemCall Op Reply → Bool
may_come between x = not (is_over between.first x.returned) && nat_le x.called between.last.returned

-- What the calls add of which this holds, or else what they take off.
abbrev pub sum_of : (ProblemCall Op Reply → Bool) → Bool → List (ProblemCall Op Reply) → ℕ
sum_of chosen up [] = 0
sum_of chosen up (x ∷ xs) = (if chosen x then share_of up x.op else 0) + sum_of chosen up xs

-- Call c is a get that was called and returned at these events, with this value.
abbrev pub IsGet : Problem ObjState Op Reply → ℕ → Times → ℤ → Type 0
IsGet p c times value = (x : ProblemCall Op Reply) × (slice_get p.calls c ≡ Some x) × (x.op ≡ Get) × (x.called ≡ times.called) × (x.returned ≡ Some (times.returned, Int value))

-- What is counted from: the start, which has the value; or a get that returned with it before the other get was called.
abbrev pub IsCountedFrom : Problem ObjState Op Reply → Option ℕ → Between → ℤ → Type 0
IsCountedFrom p None between base = (p.start ≡ Counter base) × (between.first ≡ None)
IsCountedFrom p (Some c) between base = (first : Times) × IsGet p c first base × (first.returned < between.last.called) × (between.first ≡ Some first)

-- The least value that there can be, by what must have been added and what may have been taken off; or else the greatest one, by
-- what must have been taken off and what may have been added.
abbrev pub bound_of : Bool → ℤ → ℕ → ℕ → ℤ
bound_of true base must may = base +ℤ pos must -ℤ pos may
bound_of false base must may = base -ℤ pos must +ℤ pos may

-- The value is less than the least one, or greater than the greatest.
abbrev pub IsBeyond : Bool → ℤ → ℤ → Type 0
IsBeyond true bound value = value <ℤ bound
IsBeyond false bound value = bound <ℤ value

-- The adds leave no room for the reply of a get, counted from the start or from the reply of an earlier get.
pub record IsSumFault (p : Problem ObjState Op Reply) (fault : SumFault) : Type 0 where
  pub counter : (start : ℤ) × (p.start ≡ Counter start)
  pub between : Between
  pub value : ℤ
  pub is_get : IsGet p fault.get between.last value
  pub is_from : IsCountedFrom p fault.from between fault.base
  pub must : fault.must ≡ sum_of (must_come between) fault.up p.calls
  pub may : fault.may ≡ sum_of (may_come between) (not fault.up) p.calls
  pub bound : fault.bound ≡ bound_of fault.up fault.base fault.must fault.may
  pub beyond : IsBeyond fault.up fault.bound value

-- Then there is no linearization.
abbrev pub SumLaw : Problem ObjState Op Reply → Type 0
SumLaw p = (fault : SumFault) → IsSumFault p fault → HasNone p
