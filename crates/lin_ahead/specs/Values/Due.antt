-- Calls that are due: what they found was written by a call that is lifted, so that no call that changes the state stands in front of them (this project's own).
use Rattle.std.specs.Prelude.{◌≡◌, ◌≢◌, ◌⊎◌, ℕ, Bool, true, Option, Some, None, List, [], ◌∷◌}
use Rattle.lin_history.specs.Problems.Problem.{Problem}
use Rattle.lin_history.specs.Problems.Lists.{In}
use Rattle.lin_history.specs.Problems.Precedence.{Before, IsCompleted}
use Rattle.lin_history.specs.Problems.Continuations.{has}
use Rattle.lin_ahead.specs.Values.Owners.{Changes, IsOwnedBy}

-- The call is in the set, or it is the one that is to be lifted next, where there is one.
abbrev pub IsInWith : List Bool → Option ℕ → ℕ → Type 0
IsInWith set more c = (has set c ≡ true) ⊎ (more ≡ Some c)

-- So it is with each of these calls.
abbrev pub AreInWith : List Bool → Option ℕ → List ℕ → Type 0
AreInWith set more [] = Unit {0}
AreInWith set more (c ∷ cs) = IsInWith set more c × AreInWith set more cs

-- Call g is due there: it is completed and not lifted, and each call of which one made the state that it found is lifted.
pub record IsDue {State Op Reply : Type 0} (p : Problem State Op Reply) (set : List Bool) (more : Option ℕ) (g : ℕ) : Type 0 where
  pub owners : List ℕ
  pub at_start : Bool
  pub owned : IsOwnedBy p owners at_start g
  pub completed : IsCompleted p g
  pub inside : (w : ℕ) → In w owners → IsInWith set more w
  pub outside : IsInWith set more g → ⊥

-- Another call than c is due.
abbrev pub AnotherIsDue : {State Op Reply : Type 0} → Problem State Op Reply → List Bool → ℕ → Type 0
AnotherIsDue p set c = (g : ℕ) × IsDue p set None g × (g ≢ c)

-- Behind call c a call is due, and a call that is left goes before it and does not leave the state as it is.
abbrev pub ComesBetween : {State Op Reply : Type 0} → Problem State Op Reply → List Bool → ℕ → State → Type 0
ComesBetween p set c t = (g x : ℕ) × IsDue p set (Some c) g × (IsInWith set (Some c) x → ⊥) × Before p x g × Changes p t x

-- Behind call c two calls are due that do not leave the state as it is.
abbrev pub TwoChange : {State Op Reply : Type 0} → Problem State Op Reply → List Bool → ℕ → State → Type 0
TwoChange p set c t = (g h : ℕ) × IsDue p set (Some c) g × IsDue p set (Some c) h × (g ≢ h) × Changes p t g × Changes p t h
