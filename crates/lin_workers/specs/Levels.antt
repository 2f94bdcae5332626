-- The levels that were made, one after another.
use Rattle.std.specs.Prelude.{◌≡◌, ℕ, ◌<◌, ◌≤◌, List, [], ◌⊎◌, length}
use Rattle.lin_history.specs.Problems.Problem.{Problem}
use Rattle.lin_workers.specs.declared.tasks.cutting.TheConstants.{LAST_LEVEL}
use Rattle.lin_workers.specs.Cut.{Task, AreLevel, HasNoComplete, HasWidth, IsMade}

-- Levels 0 to n were made: the last of them, and the widest of those below it, the lowest of these.
pub record AreLevels {State Op Reply : Type 0} (p : Problem State Op Reply) (want n : ℕ) (widest last : List (Task State)) : Type 0 where
  pub level : AreLevel p n last
  pub some : last ≡ [] → ⊥
  pub made : IsMade p LAST_LEVEL want n
  pub incomplete : (j : ℕ) → j < n → HasNoComplete p j
  pub below : ((n ≡ 0) × (widest ≡ [])) ⊎ ((j : ℕ) × (j < n) × AreLevel p j widest × (widest ≡ [] → ⊥) × ((i w : ℕ) → i < n → HasWidth p i w → (w ≤ length widest) × (i < j → w < length widest)))
