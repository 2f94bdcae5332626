-- One item of a queue or a stack, by the calls that put it in and those that took it out: pending calls that may take it, or take
-- another, do not matter where it is asked whether it was taken more often than it was put (this project's own).
use Rattle.std.specs.Prelude.{◌≡◌, ◌||◌, ℕ, ℤ, Bool, true, false, Option, Some, List, slice_get}
use Rattle.lin_object.specs.declared.op.Op.{Op}
use Rattle.lin_object.specs.declared.reply.Reply.{Reply}
use Rattle.lin_object.specs.declared.state.ObjState.{ObjState}
use Rattle.lin_history.specs.declared.problems.problem.ProblemCall.{ProblemCall}
use Rattle.lin_history.specs.Problems.Problem.{Problem}
use Rattle.lin_core.specs.Cuts.{AreEnough}
use Rattle.lin_core.specs.Emptied.{puts, took, HoldsNothing}
use Rattle.lin_core.specs.Laws.{IsLeft}

-- The call puts the item in, or has returned with it.
abbrev pub put_or_took : ℤ → Op → Option (ℕ × Reply) → Bool
put_or_took v op returned = puts v op || took v op returned

abbrev pub PutOrTook : ℤ → ProblemCall Op Reply → Type 0
PutOrTook v x = put_or_took v x.op x.returned ≡ true

-- It does not put the item in.
abbrev pub PutsNot : ℤ → ProblemCall Op Reply → Type 0
PutsNot v x = puts v x.op ≡ false

-- Only calls that put the item in or returned with it may be kept, where all are that put it in.
abbrev pub ItemLaw : Problem ObjState Op Reply → Type 0
ItemLaw p = (v : ℤ) (event : ℕ) (kept : List ℕ) (calls : List (ProblemCall Op Reply)) → HoldsNothing p.start → AreEnough p event kept calls (PutOrTook v) (PutsNot v) → IsLeft p kept calls

-- Such calls on the first of the values, as they stood after the event.
pub record AreEnoughOfItem (p : Problem ObjState Op Reply) (event : ℕ) (kept : List ℕ) (calls : List (ProblemCall Op Reply)) (values : List ℤ) : Type 0 where
  pub starts : HoldsNothing p.start
  pub item : ℤ
  pub first : slice_get values 0 ≡ Some item
  pub enough : AreEnough p event kept calls (PutOrTook item) (PutsNot item)
