-- A queue or a stack without lost items, and without pending calls that take one (this project's own).
use Rattle.std.specs.Prelude.{◌≡◌, ◌⊎◌, ◌↔◌, ℕ, ℤ, ◌≤◌, Bool, false, Option, Some, is_none, List, [], nat_eq, slice_get}
use Rattle.lin_object.specs.declared.op.Op.{Op}
use Rattle.lin_object.specs.declared.op.Op.TheVariants.{Enqueue, Dequeue, Push, Pop}
use Rattle.lin_object.specs.declared.reply.Reply.{Reply}
use Rattle.lin_object.specs.declared.state.ObjState.{ObjState}
use Rattle.lin_object.specs.declared.state.ObjState.TheVariants.{Queue, Stack}
use Rattle.lin_history.specs.declared.problems.problem.ProblemCall.{ProblemCall}
use Rattle.lin_history.specs.Problems.Lists.{In}
use Rattle.lin_history.specs.Problems.Problem.{Problem}
use Rattle.lin_history.specs.Problems.Linearizations.{IsLinearization}
use Rattle.lin_parts.specs.Parts.{ArePart, part_of}
use Rattle.lin_lost.specs.Counts.{puts_of, takes_of}

-- A queue or a stack that holds nothing.
abbrev pub HoldsNothing : ObjState → Type 0
HoldsNothing (Queue items) = items ≡ []
HoldsNothing (Stack items) = items ≡ []
HoldsNothing state = ⊥

-- By how many calls returned with each item: the call puts a lost item in, or it is pending and would take one.
abbrev pub is_left_out : (ℤ → ℕ) → Op → Option (ℕ × Reply) → Bool
is_left_out takes (Enqueue v) returned = nat_eq (takes v) 0
is_left_out takes (Push v) returned = nat_eq (takes v) 0
is_left_out takes Dequeue returned = is_none returned
is_left_out takes Pop returned = is_none returned
is_left_out takes op returned = false

-- The item is lost, or no more calls put it in than returned with it.
abbrev pub IsTakenAsOften : (ℤ → ℕ) → (ℤ → ℕ) → ℤ → Type 0
IsTakenAsOften puts takes v = (takes v ≡ 0) ⊎ (puts v ≤ takes v)

-- The calls of these numbers are all that are not left out, of a queue or a stack that starts empty, where each item is lost or put in
-- no more often than it came out.
pub record IsWithoutLost (p : Problem ObjState Op Reply) (kept : List ℕ) (calls : List (ProblemCall Op Reply)) : Type 0 where
  pub starts : HoldsNothing p.start
  pub as_often : (v : ℤ) → IsTakenAsOften (puts_of p.calls) (takes_of p.calls) v
  pub part : ArePart p kept calls
  pub each : (c : ℕ) (x : ProblemCall Op Reply) → slice_get p.calls c ≡ Some x → In c kept ↔ (is_left_out (takes_of p.calls) x.op x.returned ≡ false)

-- Where the whole has a linearization, the rest has one.
abbrev pub LostLaw : Problem ObjState Op Reply → Type 0
LostLaw p = (kept : List ℕ) (calls : List (ProblemCall Op Reply)) → IsWithoutLost p kept calls → (l : List ℕ) → IsLinearization p l → (m : List ℕ) × IsLinearization (part_of p calls) m
