-- The outcomes of the tasks, each at the place of its task, as far as workers brought them (this project's own).
use Rattle.std.specs.Prelude.{◌≡◌, ℕ, Option, Some, List, ◌⊎◌, Contains, length, slice_get}
use Rattle.lin_history.specs.Problems.Problem.{Problem}
use Rattle.lin_search.specs.Answer.{IsAnswer}
use Rattle.lin_search.specs.declared.outcome.Outcome.{Outcome}
use Rattle.lin_search.specs.declared.outcome.Outcome.TheVariants.{Found, Refuted, Undecided, Stopped}
use Rattle.lin_workers.specs.Cut.{Task}

-- The search ended by itself: it was not stopped.
abbrev pub WasNotStopped : Outcome → Type 0
WasNotStopped (Found order) = Unit {0}
WasNotStopped (Refuted longest) = Unit {0}
WasNotStopped Undecided = Unit {0}
WasNotStopped (Stopped told) = ⊥

-- A place for each task, which has an outcome of its search or none; no search was stopped.
pub record AreOutcomes {State Op Reply : Type 0} (p : Problem State Op Reply) (ts : List (Task State)) (limit : Option ℕ) (outcomes : List (Option Outcome)) : Type 0 where
  pub places : length outcomes ≡ length ts
  pub answers : (i : ℕ) (t : Task State) (o : Outcome) → slice_get ts i ≡ Some t → slice_get outcomes i ≡ Some (Some o) → IsAnswer p t.config.lifted t.config.state limit (λ told. ⊥) o

-- Each outcome was at its place, or is the value of the task of this number, whose search was not stopped.
pub record ArePlaced (old : List (Option Outcome)) (values : List (ℕ × Outcome)) (new : List (Option Outcome)) : Type 0 where
  pub places : length new ≡ length old
  pub each : (i : ℕ) (o : Outcome) → slice_get new i ≡ Some (Some o) → (slice_get old i ≡ Some (Some o)) ⊎ (Contains values (i, o) × WasNotStopped o)
