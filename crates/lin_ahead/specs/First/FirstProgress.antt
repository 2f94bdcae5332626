-- How far a first search has come: with which calls no completion begins (this project's own).
use Rattle.std.specs.Prelude.{◌≡◌, ℕ, ◌+◌, ◌-◌, ◌*◌, ◌<◌, Bool, true, Option, Some, None, List, [], ◌∷◌, ◌++◌, ◌⊎◌, length, IfSome}
use Rattle.std.proofs.Common.{ControlFlow, Continue, Break}
use Rattle.lin_history.specs.Problems.Problem.{Problem}
use Rattle.lin_history.specs.Problems.Lists.{IsLeast}
use Rattle.lin_history.specs.Problems.Continuations.{IsCompletion, no_calls}
use Rattle.lin_history.specs.Problems.Linearizations.{IsLinearization}
use Rattle.lin_history.specs.Problems.Configurations.{IsReachable, IsRefuted}
use Rattle.lin_object.specs.StepBacks.{state_before}
use Rattle.lin_object.specs.declared.step_back.Change.{Change}
use Rattle.lin_search.specs.AlikeLemmas.{AreAlike}
use Rattle.lin_search.specs.CallSet.{with_call, with_calls}
use Rattle.lin_search.specs.Configuration.{Configuration}
use Rattle.lin_search.specs.Entries.{IsMinimal, IsLeastMinimal}
use Rattle.lin_search.specs.NeedlessCalls.{LeavesStates}
use Rattle.lin_search.specs.NextCall.{IsNext}
use Rattle.lin_search.specs.Path.{Frame, KeptFrame, Level, levels, calls_of, frame_of, frames_of}
use Rattle.lin_search.specs.Progress.{IsBelow, AreLifts, bound}

-- No completion of the configuration begins with the call.
abbrev pub BeginsNone : {State Op Reply : Type 0} → Problem State Op Reply → List Bool → State → ℕ → Type 0
BeginsNone p set s c = (cs : List ℕ) → IsCompletion p set s (c ∷ cs) → ⊥

-- No completion of the configuration is empty, or begins with a call below i.
abbrev pub IsPassed : {State Op Reply : Type 0} → Problem State Op Reply → List Bool → State → ℕ → Type 0
IsPassed p set s i = (l : List ℕ) → IsCompletion p set s l → IsBelow i l → ⊥

-- The candidate after call c, which was tried: the next minimal call; or none, where c leaves each state as it is.
abbrev pub ComesAfter : {State Op Reply : Type 0} → Problem State Op Reply → List Bool → ℕ → Option ℕ → Type 0
ComesAfter p set c candidate = IsLeastMinimal p set (c + 1) candidate ⊎ ((candidate ≡ None) × LeavesStates p c)

-- A level's configuration is reachable, no completion of it begins with a call before the level's own, and that one leads to this state.
pub record IsPassedLevel {State Op Reply : Type 0} (p : Problem State Op Reply) (f : Level State) (t : State) : Type 0 where
  pub reachable : IsReachable p f.config.lifted f.config.state
  pub passed : IsPassed p f.config.lifted f.config.state f.call
  pub next : IsNext p f.config.lifted f.config.state f.call t

-- The levels lead from the one configuration to the other.
abbrev pub IsPassedPath : {State Op Reply : Type 0} → Problem State Op Reply → List Bool → State → List (Level State) → List Bool → State → Type 0
IsPassedPath p set s [] a t = (set ≡ a) × (s ≡ t)
IsPassedPath {State} p set s (f ∷ fs) a t = (set ≡ f.config.lifted) × (s ≡ f.config.state) × ((u : State) × IsPassedLevel p f u × IsPassedPath p (with_call f.config.lifted f.call) u fs a t)

-- Each of the configurations is refuted.
abbrev pub AreRefuted : {State Op Reply : Type 0} → Problem State Op Reply → List (Configuration State) → Type 0
AreRefuted p [] = Unit {0}
AreRefuted p (config ∷ configs) = IsRefuted p config.lifted config.state × AreRefuted p configs

-- How far a search from the root has come: what it has kept is refuted, its levels lead from the root to here, no completion of what is here begins with a call before the candidate, and so many lifts were made.
pub record IsFirstProgress {State Op Reply : Type 0} (p : Problem State Op Reply) (kept : List (Configuration State)) (lifts : ℕ) (lifted : List ℕ) (frames : List (Frame State)) (here : Configuration State) (candidate : Option ℕ) : Type 0 where
  pub alike : AreAlike p p
  pub refuted : AreRefuted p kept
  pub root : State
  pub start : p.same_state root p.start ≡ true
  pub path : IsPassedPath p (no_calls p) root (levels (no_calls p) frames) here.lifted here.state
  pub calls : (base : List ℕ) × (lifted ≡ base ++ calls_of frames) × (with_calls (no_calls p) base ≡ no_calls p)
  pub reachable : IsReachable p here.lifted here.state
  pub passed : IsPassed p here.lifted here.state (bound p candidate)
  pub minimal : IfSome candidate (λ (c : ℕ). IsMinimal p here.lifted c)
  pub count : AreLifts p (levels (no_calls p) frames) here.lifted here.state (bound p candidate) lifts

-- The frame's call was lifted, and led to the configuration that the search is at.
pub record IsFirstLifted {State Op Reply : Type 0} (p : Problem State Op Reply) (kept : List (Configuration State)) (lifts : ℕ) (lifted : List ℕ) (frames : List (Frame State)) (f : Frame State) (here : Configuration State) : Type 0 where
  pub from : Configuration State
  pub before : List ℕ
  pub made : ℕ
  pub count : lifts ≡ made + 1
  pub progress : IsFirstProgress p kept made before frames from (Some f.call)
  pub last : lifted ≡ before ++ f.call ∷ []
  pub state : f.state ≡ from.state
  pub set : here.lifted ≡ with_call from.lifted f.call
  pub next : IsNext p from.lifted from.state f.call here.state
  pub reachable : IsReachable p here.lifted here.state

-- How much is left until a call is to be lifted, by how many frames there are and the calls from i: a frame counts as all calls and one more.
abbrev pub left_to_try : {A : Type 0} → ℕ → List A → ℕ → ℕ
left_to_try n frames i = length frames * (n + 1) + (n - i)

-- After a step that counts no lift the search goes on with less left to try, or the frame's call was lifted, which is to be counted, or there is no linearization. The frames are as a path keeps them.
abbrev pub IsFirstStep : {State Op Reply : Type 0} → Problem State Op Reply → (Change → State → State) → List (Configuration State) → ℕ → List ℕ → List (KeptFrame State) → Configuration State → ℕ → ControlFlow (Option (KeptFrame State)) (Option ℕ) → Type 0
IsFirstStep p undone kept lifts lifted frames here before (Continue candidate) = IsFirstProgress p kept lifts lifted (frames_of undone frames here.state) here candidate × (left_to_try (length p.calls) frames (bound p candidate) < before)
IsFirstStep p undone kept lifts lifted frames here before (Break (Some f)) = IsFirstLifted p kept (lifts + 1) lifted (frames_of undone frames (state_before undone f.back here.state)) (frame_of undone f here.state) here
IsFirstStep p undone kept lifts lifted frames here before (Break None) = (l : List ℕ) → IsLinearization p l → ⊥

-- After a lift the search goes on, or has the least linearization.
abbrev pub IsFirstVisit : {State Op Reply : Type 0} → Problem State Op Reply → List (Configuration State) → ℕ → List ℕ → List (Frame State) → Configuration State → ControlFlow (List ℕ) (Option ℕ) → Type 0
IsFirstVisit p kept lifts lifted frames here (Continue candidate) = IsFirstProgress p kept lifts lifted frames here candidate
IsFirstVisit p kept lifts lifted frames here (Break order) = IsLeast (IsLinearization p) order
