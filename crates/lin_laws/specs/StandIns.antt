-- Which calls may stand in for others in runs of the first calls (this project's own).
use Rattle.std.specs.Prelude.{◌≡◌, ◌≢◌, ℕ, ◌<◌, ◌≤◌, List, ◌∷◌, ◌++◌, slice_index_or}
use Rattle.lin_history.specs.Problems.Lists.{In}
use Rattle.lin_history.specs.Problems.Problem.{Problem}
use Rattle.lin_history.specs.Problems.Precedence.{Before}
use Rattle.lin_history.specs.Problems.Linearizations.{IsRun}

-- A row of numbers of the calls, and runs with calls up to k alone.
pub record AreStandIns {State Op Reply : Type 0} (p : Problem State Op Reply) (row : List ℕ) : Type 0 where
  -- A run has at most one of the calls whose numbers are greater than k.
  pub one : (k a b : ℕ) → a ≢ b → k < slice_index_or row a 0 → k < slice_index_or row b 0 → (l : List ℕ) → IsRun p l → ((c : ℕ) → In c l → c ≤ k) → In a l → In b l → ⊥
  -- In place of one that does not precede k it may have any earlier one.
  pub in_place : (k a b : ℕ) → a < b → k < slice_index_or row a 0 → k < slice_index_or row b 0 → (Before p b k → ⊥) → (l : List ℕ) → IsRun p l → ((c : ℕ) → In c l → c ≤ k) → In b l
      → (front rest : List ℕ) × (l ≡ front ++ b ∷ rest) × IsRun p (front ++ a ∷ rest)
