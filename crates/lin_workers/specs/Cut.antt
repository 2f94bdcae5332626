-- The levels of a problem's configurations, and the cut of a search into tasks (this project's own).
use Rattle.std.specs.Prelude.{◌≡◌, ℕ, ◌+◌, ◌<◌, ◌≤◌, Bool, true, Some, List, [], ◌∷◌, ◌++◌, ◌⊎◌, length, slice_get}
use Rattle.lin_history.specs.Problems.Problem.{Problem}
use Rattle.lin_history.specs.Problems.Lists.{IsUpTo, IsLeast}
use Rattle.lin_history.specs.Problems.LegalLists.{Legal}
use Rattle.lin_history.specs.Problems.Continuations.{IsCompletion}
use Rattle.lin_history.specs.Problems.Linearizations.{IsRun, IsLinearization}
use Rattle.lin_search.specs.Answer.{HasNoCompletion}
use Rattle.lin_search.specs.CallSet.{lifted_set}
use Rattle.lin_search.specs.NextCall.{HasEveryCompleted}
use Rattle.lin_search.specs.Configuration.{Configuration}
use Rattle.lin_search.specs.Count.{Among, AllApart}

-- A run that leads to the configuration: its calls are those of the set, and it ends in a state that is equal to this one.
pub record LeadsTo {State Op Reply : Type 0} (p : Problem State Op Reply) (l : List ℕ) (set : List Bool) (s : State) : Type 0 where
  pub run : IsRun p l
  pub calls : set ≡ lifted_set p l
  pub ends : (t : State) × Legal p p.start l t × (p.same_state t s ≡ true)

-- The configuration is of level k: a run of k calls leads to it.
abbrev pub IsAtLevel : {State Op Reply : Type 0} → Problem State Op Reply → ℕ → List Bool → State → Type 0
IsAtLevel p k set s = (l : List ℕ) × LeadsTo p l set s × (length l ≡ k)

-- A configuration, and a run that leads to it.
pub record Task (State : Type 0) : Type 0 where
  pub path : List ℕ
  pub config : Configuration State

-- The task's path is the least run that leads to its configuration, and has k calls.
pub record IsTask {State Op Reply : Type 0} (p : Problem State Op Reply) (k : ℕ) (t : Task State) : Type 0 where
  pub least : IsLeast (λ l. LeadsTo p l t.config.lifted t.config.state) t.path
  pub calls : length t.path ≡ k

-- Each task's path is the least to its configuration, and has k calls.
abbrev pub AreTasks : {State Op Reply : Type 0} → Problem State Op Reply → ℕ → List (Task State) → Type 0
AreTasks p k [] = Unit {0}
AreTasks p k (t ∷ ts) = IsTask p k t × AreTasks p k ts

-- The list comes before the path of each task.
abbrev pub IsBeforeEach : {State : Type 0} → List ℕ → List (Task State) → Type 0
IsBeforeEach l [] = Unit {0}
IsBeforeEach l (t ∷ ts) = (IsUpTo l t.path × (l ≡ t.path → ⊥)) × IsBeforeEach l ts

-- The tasks are in lexicographic order of their paths, none twice.
abbrev pub AreInOrder : {State : Type 0} → List (Task State) → Type 0
AreInOrder [] = Unit {0}
AreInOrder (t ∷ ts) = IsBeforeEach t.path ts × AreInOrder ts

-- The configurations of the tasks.
abbrev pub configurations_of : {State : Type 0} → List (Task State) → List (Configuration State)
configurations_of [] = []
configurations_of (t ∷ ts) = t.config ∷ configurations_of ts

-- All configurations of level k, each once with the least run that leads to it, in order of those runs.
pub record AreLevel {State Op Reply : Type 0} (p : Problem State Op Reply) (k : ℕ) (ts : List (Task State)) : Type 0 where
  pub each : AreTasks p k ts
  pub order : AreInOrder ts
  pub every : (set : List Bool) (s : State) → IsAtLevel p k set s → Among p.same_state (configurations_of ts) set s

-- No configuration of level k has every completed call.
abbrev pub HasNoComplete : {State Op Reply : Type 0} → Problem State Op Reply → ℕ → Type 0
HasNoComplete {State} p k = (set : List Bool) (s : State) → IsAtLevel p k set s → HasEveryCompleted p set → ⊥

-- A cut at level k: its configurations, of which there are some, where no level below has one with every completed call.
pub record IsCut {State Op Reply : Type 0} (p : Problem State Op Reply) (k : ℕ) (ts : List (Task State)) : Type 0 where
  pub level : AreLevel p k ts
  pub some : ts ≡ [] → ⊥
  pub incomplete : (j : ℕ) → j < k → HasNoComplete p j

-- Level k has n configurations.
abbrev pub HasWidth : {State Op Reply : Type 0} → Problem State Op Reply → ℕ → ℕ → Type 0
HasWidth {State} p k n = (xs : List (Configuration State)) × AllApart p.same_state xs × ((set : List Bool) (s : State) → (IsAtLevel p k set s → Among p.same_state xs set s) × (Among p.same_state xs set s → IsAtLevel p k set s)) × (length xs ≡ n)

-- No level is made after level k: it is the last that a cut may be at, or as many configurations as are wanted are there,
-- or a complete one, or none is at the next level.
abbrev pub IsLastLevel : {State Op Reply : Type 0} → Problem State Op Reply → (last want k : ℕ) → Type 0
IsLastLevel {State} p last want k =
    (k ≡ last) ⊎ ((n : ℕ) × HasWidth p k n × (want ≤ n)) ⊎ ((set : List Bool) × (s : State) × IsAtLevel p k set s × HasEveryCompleted p set) ⊎ ((set : List Bool) (s : State) → IsAtLevel p (k + 1) set s → ⊥)

-- Level k is made: no level below it is the last.
abbrev pub IsMade : {State Op Reply : Type 0} → Problem State Op Reply → (last want k : ℕ) → Type 0
IsMade p last want k = (j : ℕ) → j < k → IsLastLevel p last want j → ⊥

-- Level k is the widest of those that are made, and the lowest of these. Where one has as many configurations as are
-- wanted, that is the first such level: none after it is made.
pub record IsWidestMade {State Op Reply : Type 0} (p : Problem State Op Reply) (last want k : ℕ) : Type 0 where
  pub made : IsMade p last want k
  pub widest : (j n m : ℕ) → IsMade p last want j → HasWidth p j n → HasWidth p k m → n ≤ m
  pub lowest : (j n m : ℕ) → j < k → HasWidth p j n → HasWidth p k m → n < m

-- None of the tasks before this index has a completion.
abbrev pub HasNoneBefore : {State Op Reply : Type 0} → Problem State Op Reply → List (Task State) → ℕ → Type 0
HasNoneBefore {State} p ts i = (j : ℕ) (t : Task State) → j < i → slice_get ts j ≡ Some t → HasNoCompletion p t.config.lifted t.config.state

-- The tasks decide the problem: where none has a completion it has no linearization, and of the first that has one the
-- least completion, after the task's path, is the least linearization.
pub record DecideBy {State Op Reply : Type 0} (p : Problem State Op Reply) (ts : List (Task State)) : Type 0 where
  pub none : HasNoneBefore p ts (length ts) → (l : List ℕ) → IsLinearization p l → ⊥
  pub least : (i : ℕ) (t : Task State) → slice_get ts i ≡ Some t → HasNoneBefore p ts i → (l : List ℕ) → IsLeast (IsCompletion p t.config.lifted t.config.state) l → IsLeast (IsLinearization p) (t.path ++ l)
