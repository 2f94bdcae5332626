-- What calls of a counter add in one direction (this project's own).
use Rattle.std.specs.Prelude.{◌≡◌, ℕ, suc, ◌+◌, ◌<◌, ◌≤◌, ℤ, pos, negsuc, Bool, true, false, not, Option, Some, None, List, [], ◌∷◌, ◌⊎◌, slice_get, length}
use Rattle.lin_object.specs.declared.op.Op.{Op}
use Rattle.lin_object.specs.declared.op.Op.TheVariants.{Add, Get}
use Rattle.lin_object.specs.declared.reply.Reply.{Reply}
use Rattle.lin_object.specs.declared.reply.Reply.TheVariants.{Int}
use Rattle.lin_object.specs.declared.state.ObjState.{ObjState}
use Rattle.lin_history.specs.declared.problems.problem.ProblemCall.{ProblemCall}
use Rattle.lin_history.specs.Problems.Problem.{Problem}
use Rattle.lin_history.specs.Problems.Lists.{In, IsDistinct}
use Rattle.lin_history.specs.Problems.Precedence.{Before}
use Rattle.lin_history.specs.Problems.Continuations.{has}
use Rattle.lin_fewer.specs.declared.sums.Got.{Got}

-- What a number adds in a direction, upwards or else downwards.
abbrev pub part_in : Bool → ℤ → ℕ
part_in true (pos n) = n
part_in true (negsuc n) = 0
part_in false (pos n) = 0
part_in false (negsuc n) = suc n

-- What an operation adds in that direction.
abbrev pub part_of : Bool → Op → ℕ
part_of up (Add d) = part_in up d
part_of up op = 0

-- What the call adds in that direction.
abbrev pub part_of_call : Bool → Option (ProblemCall Op Reply) → ℕ
part_of_call up None = 0
part_of_call up (Some x) = part_of up x.op

-- What the calls of a list add in that direction.
abbrev pub sum_of_parts : Bool → List (ProblemCall Op Reply) → List ℕ → ℕ
sum_of_parts up calls [] = 0
sum_of_parts up calls (c ∷ cs) = part_of_call up (slice_get calls c) + sum_of_parts up calls cs

-- Call g is this completed get.
pub record IsGot (p : Problem ObjState Op Reply) (g : ℕ) (got : Got) : Type 0 where
  pub call : ProblemCall Op Reply
  pub at : slice_get p.calls g ≡ Some call
  pub op : call.op ≡ Get
  pub called : call.called ≡ got.called
  pub returned : call.returned ≡ Some (got.returned, Int got.value)

-- Of the calls below this one that are not in the set, those that precede the get add no less than the sum, and those that may stand in
-- front of it no more than so much in the other direction.
pub record AddBefore (p : Problem ObjState Op Reply) (set : List Bool) (up : Bool) (g to : ℕ) (sum back : ℕ) : Type 0 where
  pub calls : List ℕ
  pub distinct : IsDistinct calls
  pub below : (a : ℕ) → In a calls → a < to
  pub before : (a : ℕ) → In a calls → Before p a g × (has set a ≡ false)
  pub enough : sum ≤ sum_of_parts up p.calls calls
  pub others : List ℕ
  pub those : (a : ℕ) → a < to → a < length p.calls → has set a ≡ false → (Before p g a → ⊥) → In a others
  pub few : sum_of_parts (not up) p.calls others ≤ back

-- The call adds in the direction, or nothing.
pub record IsAdd (p : Problem ObjState Op Reply) (up : Bool) (c : ℕ) : Type 0 where
  pub call : ProblemCall Op Reply
  pub at : slice_get p.calls c ≡ Some call
  pub number : ℤ
  pub op : call.op ≡ Add number
  pub direction : part_in (not up) number ≡ 0

-- The call is a pending get.
pub record IsPendingGet (p : Problem ObjState Op Reply) (c : ℕ) : Type 0 where
  pub call : ProblemCall Op Reply
  pub at : slice_get p.calls c ≡ Some call
  pub op : call.op ≡ Get
  pub returned : call.returned ≡ None

-- The call is one or the other.
abbrev pub MayComeLate : Problem ObjState Op Reply → Bool → ℕ → Type 0
MayComeLate p up c = IsAdd p up c ⊎ IsPendingGet p c

-- With so much more in the direction, and so much in the other one, the number is beyond the value.
abbrev pub IsTooMuch : Bool → ℤ → ℤ → ℕ → ℕ → Type 0
IsTooMuch up number value sum back = part_in up value + part_in (not up) number + back < part_in up number + part_in (not up) value + sum

-- Each call below this one that is not in the set may come late.
abbrev pub MayComeLateTo : Problem ObjState Op Reply → List Bool → Bool → ℕ → Type 0
MayComeLateTo p set up to = (c : ℕ) → c < to → c < length p.calls → has set c ≡ false → MayComeLate p up c
