-- What a worker brings of the tasks that it claimed (this project's own).
use Rattle.std.specs.Prelude.{◌≡◌, ℕ, List, [], ◌∷◌, ◌++◌, Option, Some, Contains, slice_get}
use Rattle.lin_history.specs.Problems.Problem.{Problem}
use Rattle.lin_history.specs.Problems.Lists.{IsDistinct}
use Rattle.lin_search.specs.declared.outcome.Outcome.{Outcome}
use Rattle.lin_search.specs.declared.outcome.Outcome.TheVariants.{Found, Refuted, Undecided, Stopped}
use Rattle.lin_search.specs.Answer.{IsAnswer}
use Rattle.lin_board.specs.Facts.{SeatFacts}
use Rattle.lin_workers.specs.Cut.{Task}
use Rattle.lin_workers.specs.Heard.{IsTold}

-- The value of a task: the seat claimed it, and the outcome is the answer of a search of its configuration. Where that was
-- stopped, the seat was told of a smaller task.
pub record IsValue {State Op Reply : Type 0} (p : Problem State Op Reply) (ts : List (Task State)) (limit : Option ℕ) (seat : SeatFacts) (v : ℕ × Outcome) : Type 0 where
  pub task : Task State
  pub at : slice_get ts v.0 ≡ Some task
  pub claimed : Contains seat.claimed v.0
  pub answer : IsAnswer p task.config.lifted task.config.state limit (IsTold v.0 seat) v.1

-- Each is the value of a task.
abbrev pub AreValues : {State Op Reply : Type 0} → Problem State Op Reply → List (Task State) → Option ℕ → SeatFacts → List (ℕ × Outcome) → Type 0
AreValues p ts limit seat [] = Unit {0}
AreValues p ts limit seat (v ∷ vs) = IsValue p ts limit seat v × AreValues p ts limit seat vs

-- The tasks of the values.
abbrev pub tasks_of : List (ℕ × Outcome) → List ℕ
tasks_of [] = []
tasks_of (v ∷ vs) = v.0 ∷ tasks_of vs

-- The task, where its value is a completion.
abbrev pub if_found : ℕ → Outcome → List ℕ
if_found task (Found order) = task ∷ []
if_found task (Refuted longest) = []
if_found task Undecided = []
if_found task (Stopped told) = []

-- The tasks whose value is a completion.
abbrev pub found_of : List (ℕ × Outcome) → List ℕ
found_of [] = []
found_of (v ∷ vs) = if_found v.0 v.1 ++ found_of vs

-- What a worker brings: values of tasks that its seat claimed, of none two, and the seat told the board of those found alone. What
-- the seat had claimed before comes in front of its claims.
pub record HasBrought {State Op Reply : Type 0} (p : Problem State Op Reply) (ts : List (Task State)) (limit : Option ℕ) (old new : SeatFacts) (vs : List (ℕ × Outcome)) : Type 0 where
  pub values : AreValues p ts limit new vs
  pub once : IsDistinct (tasks_of vs)
  pub found : new.found ≡ old.found ++ found_of vs
  pub claimed : (claims : List ℕ) × (new.claimed ≡ old.claimed ++ claims)
