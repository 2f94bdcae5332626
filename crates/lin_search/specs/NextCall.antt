-- The steps of the search (Wing and Gong 1993; Lowe 2017): a call that can follow a configuration, and when no more has to follow.
use Rattle.std.specs.Prelude.{◌≡◌, ℕ, Bool, true, false, Some, List}
use Rattle.lin_history.specs.Problems.Problem.{Problem}
use Rattle.lin_history.specs.Problems.LegalLists.{next}
use Rattle.lin_history.specs.Problems.Precedence.{Before, IsCompleted}
use Rattle.lin_history.specs.Problems.Continuations.{has}

-- The call can follow the set, from s, and leads to t: it is not in the set, every call that precedes it is, and it has a step whose reply fits.
pub record IsNext {State Op Reply : Type 0} (p : Problem State Op Reply) (set : List Bool) (s : State) (c : ℕ) (t : State) : Type 0 where
  pub outside : has set c ≡ false
  pub preceded : (a : ℕ) → Before p a c → has set a ≡ true
  pub step : next p s c ≡ Some t

-- Every completed call is in the set; pending calls need not be.
abbrev pub HasEveryCompleted : {State Op Reply : Type 0} → Problem State Op Reply → List Bool → Type 0
HasEveryCompleted p set = (c : ℕ) → IsCompleted p c → has set c ≡ true
