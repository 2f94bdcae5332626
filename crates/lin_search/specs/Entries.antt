-- The entries of a problem's calls and returns (Wing and Gong 1993), as contracts see them, and the calls that can be lifted next.
use Rattle.std.specs.Prelude.{◌≡◌, ℕ, ◌<◌, ◌≤◌, Bool, true, false, Option, Some, None, List, length}
use Rattle.lin_history.specs.Problems.Problem.{Problem}
use Rattle.lin_history.specs.Problems.ProblemParts.{ProblemParts}
use Rattle.lin_history.specs.Problems.Precedence.{Before}
use Rattle.lin_history.specs.Problems.Continuations.{has}

-- A problem, and its calls that are lifted, in the order in which they were.
pub record LiftedCalls (Object State Op Reply : Type 0) : Type 0 where
  pub problem : ProblemParts Object State Op Reply
  pub lifted : List ℕ

-- The call is not in the set, and no other call that is not in the set precedes it.
pub record IsMinimal {State Op Reply : Type 0} (p : Problem State Op Reply) (set : List Bool) (c : ℕ) : Type 0 where
  pub within : c < length p.calls
  pub outside : has set c ≡ false
  pub preceded : (a : ℕ) → Before p a c → has set a ≡ true

-- It is the least minimal call that is not below the bound; `None` where there is none.
abbrev pub IsLeastMinimal : {State Op Reply : Type 0} → Problem State Op Reply → List Bool → ℕ → Option ℕ → Type 0
IsLeastMinimal p set bound (Some c) = IsMinimal p set c × (bound ≤ c) × ((d : ℕ) → IsMinimal p set d → bound ≤ d → c ≤ d)
IsLeastMinimal p set bound None = (d : ℕ) → IsMinimal p set d → bound ≤ d → ⊥
