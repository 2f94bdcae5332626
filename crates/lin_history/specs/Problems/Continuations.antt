-- What can follow a configuration, a set of calls and a state (Lowe 2017).
use Rattle.std.specs.Prelude.{◌≡◌, ℕ, Bool, true, false, List, ◌∷◌, ◌++◌, length, replicate, ◌⊎◌, slice_index_or}
use Rattle.lin_history.specs.Problems.Lists.{In, IsDistinct}
use Rattle.lin_history.specs.Problems.Problem.{Problem}
use Rattle.lin_history.specs.Problems.LegalLists.{Legal}
use Rattle.lin_history.specs.Problems.Precedence.{Before, IsCompleted}

-- The call is in the set, which has a flag for each call.
abbrev pub has : List Bool → ℕ → Bool
has set c = slice_index_or set c false

-- The set with no call.
abbrev pub no_calls : {State Op Reply : Type 0} → Problem State Op Reply → List Bool
no_calls p = replicate (length p.calls) false

-- The calls of the list can follow those of the set, from state s.
pub record IsContinuation {State Op Reply : Type 0} (p : Problem State Op Reply) (set : List Bool) (s : State) (l : List ℕ) : Type 0 where
  pub distinct : IsDistinct l
  pub outside : (c : ℕ) → In c l → has set c ≡ false
  pub legal : (t : State) × Legal p s l t
  -- What returned before a call of the list was called is in the set, or earlier in the list.
  pub ordered : (early : List ℕ) (b : ℕ) (late : List ℕ) → l ≡ early ++ b ∷ late → (a : ℕ) → Before p a b → (has set a ≡ true) ⊎ In a early

-- A continuation that together with the set has every completed call.
pub record IsCompletion {State Op Reply : Type 0} (p : Problem State Op Reply) (set : List Bool) (s : State) (l : List ℕ) : Type 0 where
  pub continuation : IsContinuation p set s l
  pub complete : (c : ℕ) → IsCompleted p c → (has set c ≡ true) ⊎ In c l
