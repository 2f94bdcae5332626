-- Calls on a register that took a value away, and what one call alone made (this project's own).
use Rattle.std.specs.Prelude.{◌≡◌, ℕ, Bool, true, false, not, Option, Some, None, List, [], ◌∷◌, slice_get, IsSomeAnd, IsTrue}
use Rattle.std.specs.Ordering.{int_eq}
use Rattle.lin_object.specs.declared.op.Op.{Op}
use Rattle.lin_object.specs.declared.op.Op.TheVariants.{Cas}
use Rattle.lin_object.specs.declared.reply.Reply.{Reply}
use Rattle.lin_object.specs.declared.reply.Reply.TheVariants.{Flag}
use Rattle.lin_history.specs.declared.problems.problem.ProblemCall.{ProblemCall}
use Rattle.lin_ahead.specs.declared.values.owners.Owners.{Owners}

-- It is a cas from one value to another that returned true.
abbrev pub takes : Op → Option (ℕ × Reply) → Bool
takes (Cas a b) (Some (number, Flag true)) = not (int_eq a b)
takes op returned = false

-- The call found a value and took it away.
abbrev pub TakesAway : List (ProblemCall Op Reply) → ℕ → Type 0
TakesAway calls g = IsSomeAnd (slice_get calls g) (λ x. IsTrue (takes x.op x.returned))

-- One call alone, or the start, made what the call found of which these are the owners.
abbrev pub IsSoleOwner : Owners → Option ℕ → Type 0
IsSoleOwner owners (Some w) = IsTrue owners.are_told × (owners.calls.items ≡ w ∷ []) × (owners.at_start ≡ false)
IsSoleOwner owners None = IsTrue owners.are_told × (owners.calls.items ≡ []) × (owners.at_start ≡ true)
