-- Configurations of a problem (Lowe 2017).
use Rattle.std.specs.Prelude.{◌≡◌, ℕ, Bool, true, List, length}
use Rattle.lin_history.specs.Problems.Lists.{In}
use Rattle.lin_history.specs.Problems.Problem.{Problem}
use Rattle.lin_history.specs.Problems.LegalLists.{Legal}
use Rattle.lin_history.specs.Problems.Continuations.{has, IsCompletion}
use Rattle.lin_history.specs.Problems.Linearizations.{IsRun}

-- The configuration of some run: the set of its calls, and a state equal to the one that it ends in.
pub record IsReachable {State Op Reply : Type 0} (p : Problem State Op Reply) (set : List Bool) (s : State) : Type 0 where
  pub flags : length set ≡ length p.calls
  pub run : (l : List ℕ) × IsRun p l × ((c : ℕ) → (has set c ≡ true → In c l) × (In c l → has set c ≡ true)) × ((t : State) × Legal p p.start l t × (p.same_state t s ≡ true))

-- Reachable, and no completion.
pub record IsRefuted {State Op Reply : Type 0} (p : Problem State Op Reply) (set : List Bool) (s : State) : Type 0 where
  pub reachable : IsReachable p set s
  pub none : (l : List ℕ) → IsCompletion p set s l → ⊥
