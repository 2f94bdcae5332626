-- The next level of configurations, as far as calls were tried on the tasks of a level.
use Rattle.std.specs.Prelude.{◌≡◌, ℕ, ◌+◌, ◌<◌, Some, List, [], ◌∷◌, ◌++◌, ◌⊎◌, slice_get}
use Rattle.lin_history.specs.Problems.Problem.{Problem}
use Rattle.lin_search.specs.CallSet.{with_call}
use Rattle.lin_search.specs.NextCall.{IsNext}
use Rattle.lin_search.specs.Count.{Among}
use Rattle.lin_workers.specs.Cut.{Task, AreTasks, AreInOrder, configurations_of}

-- Call c was tried on parent j, where all calls were on the parents before parent i, and on parent i those below b.
abbrev pub IsTried : (i b j c : ℕ) → Type 0
IsTried i b j c = (j < i) ⊎ ((j ≡ i) × (c < b))

-- Each task goes on from a parent by a call that was tried.
abbrev pub AreChildren : {State : Type 0} → List (Task State) → (i b : ℕ) → List (Task State) → Type 0
AreChildren parents i b [] = Unit {0}
AreChildren {State} parents i b (t ∷ ts) = ((j : ℕ) × (q : Task State) × (c : ℕ) × (slice_get parents j ≡ Some q) × (t.path ≡ q.path ++ c ∷ []) × IsTried i b j c) × AreChildren parents i b ts

-- The next level as far as calls were tried: its tasks, in order, each from a parent; and what such a call leads to is there.
pub record IsFilled {State Op Reply : Type 0} (p : Problem State Op Reply) (k : ℕ) (parents : List (Task State)) (i b : ℕ) (ts : List (Task State)) : Type 0 where
  pub each : AreTasks p (k + 1) ts
  pub order : AreInOrder ts
  pub children : AreChildren parents i b ts
  pub has_each : (j : ℕ) (q : Task State) (c : ℕ) (t : State) → slice_get parents j ≡ Some q → IsTried i b j c → IsNext p q.config.lifted q.config.state c t → Among p.same_state (configurations_of ts) (with_call q.config.lifted c) t
