-- The longest run (this project's own).
use Rattle.std.specs.Prelude.{◌≡◌, ℕ, ◌≤◌, List, length}
use Rattle.lin_history.specs.Problems.Lists.{IsUpTo}

-- The first, in lexicographic order, of the longest lists of which P holds.
pub record IsFirstLongest (P : List ℕ → Type 0) (l : List ℕ) : Type 0 where
  pub holds : P l
  pub greatest : (m : List ℕ) → P m → length m ≤ length l
  pub least : (m : List ℕ) → P m → length m ≡ length l → IsUpTo l m
