-- How far a depth-first search has come: what it knows of the calls that it has tried (this project's own).
use Rattle.std.specs.Prelude.{◌≡◌, ℕ, zero, suc, ◌+◌, ◌-◌, ◌*◌, ◌<◌, Bool, true, false, Option, Some, None, List, [], ◌∷◌, ◌++◌, length, IfSome}
use Rattle.std.proofs.Common.{ControlFlow, Continue, Break}
use Rattle.lin_history.specs.Problems.Problem.{Problem}
use Rattle.lin_history.specs.Problems.Lists.{IsLongest}
use Rattle.lin_history.specs.Problems.Continuations.{IsContinuation, IsCompletion, no_calls}
use Rattle.lin_history.specs.Problems.Configurations.{IsReachable}
use Rattle.lin_search.specs.declared.outcome.Outcome.{Outcome}
use Rattle.lin_search.specs.declared.outcome.Outcome.TheVariants.{Found, Refuted, Undecided, Stopped}
use Rattle.lin_search.specs.declared.longest.Longest.{Longest}
use Rattle.lin_search.specs.Configuration.{Configuration}
use Rattle.lin_search.specs.CallSet.{with_call, with_calls}
use Rattle.lin_search.specs.NextCall.{IsNext}
use Rattle.lin_search.specs.Entries.{IsMinimal}
use Rattle.lin_search.specs.Size.{HasMany}
use Rattle.lin_search.specs.Memo.{IsClosed}
use Rattle.lin_search.specs.Answer.{IsAnswer, IsRefutation}
use Rattle.lin_search.specs.declared.path.Position.{Position}
use Rattle.lin_search.specs.Path.{Frame, Level, levels, calls_of}

-- The list has no call, or its first is below i.
abbrev pub IsBelow : ℕ → List ℕ → Type 0
IsBelow i [] = Unit {0}
IsBelow i (c ∷ cs) = c < i

-- A continuation that has no call, or begins with a call below i.
abbrev pub IsContinuationBelow : {State Op Reply : Type 0} → Problem State Op Reply → List Bool → State → ℕ → List ℕ → Type 0
IsContinuationBelow p set s i l = IsContinuation p set s l × IsBelow i l

-- What the calls below i tell of a configuration: none begins a completion, and this is the longest that they begin.
pub record IsSearchedTo {State Op Reply : Type 0} (p : Problem State Op Reply) (set : List Bool) (s : State) (i more : ℕ) (first : Option ℕ) : Type 0 where
  pub none : (l : List ℕ) → IsCompletion p set s l → IsBelow i l → ⊥
  pub longest : IsLongest (IsContinuationBelow p set s i) more first

-- Where the calls that were tried end: at the candidate, or after all calls.
abbrev pub bound : {State Op Reply : Type 0} → Problem State Op Reply → Option ℕ → ℕ
bound p None = length p.calls
bound p (Some c) = c

-- A level's configuration is reachable, the calls before its own were tried, and its own leads to this state.
pub record IsLevel {State Op Reply : Type 0} (p : Problem State Op Reply) (f : Level State) (t : State) : Type 0 where
  pub reachable : IsReachable p f.config.lifted f.config.state
  pub searched : IsSearchedTo p f.config.lifted f.config.state f.call f.longest.more f.longest.first
  pub next : IsNext p f.config.lifted f.config.state f.call t

-- The levels lead from the one configuration to the other.
abbrev pub IsPath : {State Op Reply : Type 0} → Problem State Op Reply → List Bool → State → List (Level State) → List Bool → State → Type 0
IsPath p set s [] a t = (set ≡ a) × (s ≡ t)
IsPath {State} p set s (f ∷ fs) a t = (set ≡ f.config.lifted) × (s ≡ f.config.state) × ((u : State) × IsLevel p f u × IsPath p (with_call f.config.lifted f.call) u fs a t)

-- Where a search is: its levels lead from the root to here, and what the calls before the candidate tell of the configuration here.
pub record IsAt {State Op Reply : Type 0} (p : Problem State Op Reply) (root : Configuration State) (levels : List (Level State)) (here : Configuration State) (longest : Longest) (candidate : Option ℕ) : Type 0 where
  pub path : IsPath p root.lifted root.state levels here.lifted here.state
  pub reachable : IsReachable p here.lifted here.state
  pub searched : IsSearchedTo p here.lifted here.state (bound p candidate) longest.more longest.first
  pub minimal : IfSome candidate (λ (c : ℕ). IsMinimal p here.lifted c)

-- n lifts were made on the path: one of each level's call, and those below the calls before it.
abbrev pub HasLifts : {State Op Reply : Type 0} → Problem State Op Reply → List (Level State) → ℕ → Type 0
HasLifts p [] n = n ≡ 0
HasLifts p (f ∷ fs) n = (m : ℕ) × (k : ℕ) × HasMany (IsContinuationBelow p f.config.lifted f.config.state f.call) m × HasLifts p fs k × (n ≡ m + 1 + k)

-- n lifts were made in all: those of the path, and those below the calls before i here. Each is a continuation of its own.
pub record AreLifts {State Op Reply : Type 0} (p : Problem State Op Reply) (levels : List (Level State)) (set : List Bool) (s : State) (i n : ℕ) : Type 0 where
  pub on_path : ℕ
  pub below : ℕ
  pub path : HasLifts p levels on_path
  pub many : HasMany (IsContinuationBelow p set s i) below
  pub total : n ≡ on_path + below

-- Of a limit so many lifts are left, after a number of lifts that P holds of. Without a limit nothing is counted.
abbrev pub IsLeft : (ℕ → Type 0) → Option ℕ → Option ℕ → Type 0
IsLeft P None None = Unit {0}
IsLeft P (Some limit) (Some left) = (made : ℕ) × (limit ≡ left + made) × P made
IsLeft P None (Some left) = ⊥
IsLeft P (Some limit) None = ⊥

-- A lift is taken of those that are left.
abbrev pub IsTaken : Option ℕ → Option ℕ → Type 0
IsTaken None None = Unit {0}
IsTaken (Some old) (Some new) = old ≡ new + 1
IsTaken None (Some new) = ⊥
IsTaken (Some old) None = ⊥

-- How far a search from the root has come: where it is, which calls are lifted, and how many lifts are left.
pub record IsProgress {State Op Reply : Type 0} (p : Problem State Op Reply) (root : Configuration State) (limit : Option ℕ) (lifted : List ℕ) (frames : List (Frame State)) (left : Option ℕ) (here : Configuration State) (longest : Longest) (candidate : Option ℕ) : Type 0 where
  pub at : IsAt p root (levels root.lifted frames) here longest candidate
  pub calls : (base : List ℕ) × (lifted ≡ base ++ calls_of frames) × (with_calls (no_calls p) base ≡ root.lifted)
  pub lifts : IsLeft (AreLifts p (levels root.lifted frames) here.lifted here.state (bound p candidate)) limit left

-- What each call below i leads to is held.
abbrev pub HoldsBelow : {State Op Reply : Type 0} → Problem State Op Reply → (List Bool → State → Type 0) → List Bool → State → ℕ → Type 0
HoldsBelow {State} p holds set s i = (c : ℕ) → c < i → (t : State) → IsNext p set s c t → holds (with_call set c) t

-- What each call before a level's own leads to is held.
abbrev pub HoldsOnPath : {State Op Reply : Type 0} → Problem State Op Reply → (List Bool → State → Type 0) → List (Level State) → Type 0
HoldsOnPath p holds [] = Unit {0}
HoldsOnPath p holds (f ∷ fs) = HoldsBelow p holds f.config.lifted f.config.state f.call × HoldsOnPath p holds fs

-- A memo that has kept all that it was handed: it is closed, and holds what the calls tried so far lead to, here and on the path from the root.
pub record HoldsSearched {State Op Reply : Type 0} (p : Problem State Op Reply) (holds : List Bool → State → Type 0) (root : List Bool) (frames : List (Frame State)) (here : Configuration State) (candidate : Option ℕ) : Type 0 where
  pub closed : IsClosed p holds
  pub below : HoldsBelow p holds here.lifted here.state (bound p candidate)
  pub path : HoldsOnPath p holds (levels root frames)
  pub set : with_calls root (calls_of frames) ≡ here.lifted

-- How many calls are not in the set.
abbrev pub free : List Bool → ℕ
free [] = 0
free (true ∷ s) = free s
free (false ∷ s) = suc (free s)

-- The product of so many factors.
abbrev pub power : ℕ → ℕ → ℕ
power b zero = 1
power b (suc n) = b * power b n

-- What is left to be tried below the levels, where there are n calls.
abbrev pub work_on_path : {State : Type 0} → ℕ → List (Level State) → ℕ
work_on_path n [] = 0
work_on_path n (f ∷ fs) = (n - f.call) * power (n + 2) (free f.config.lifted) + work_on_path n fs

-- What is left of a search, by its levels, its set and the calls from i.
abbrev pub work_below : {State : Type 0} → ℕ → List (Level State) → List Bool → ℕ → ℕ
work_below n fs set i = work_on_path n fs + suc (n - i) * power (n + 2) (free set)

-- The same by the set of its root and its frames.
abbrev pub work : {State : Type 0} → ℕ → List Bool → List (Frame State) → List Bool → ℕ → ℕ
work n root frames set i = work_below n (levels root frames) set i

-- The search goes on from here, with less to do than before.
abbrev pub GoesOn : {State Op Reply : Type 0} → Problem State Op Reply → Configuration State → Option ℕ → List ℕ → List (Frame State) → Option ℕ → Configuration State → Longest → Option ℕ → ℕ → Type 0
GoesOn p root limit lifted frames left here longest candidate before =
    IsProgress p root limit lifted frames left here longest candidate × (work (length p.calls) root.lifted frames here.lifted (bound p candidate) < before)

-- After a step the search goes on, or has its answer; where the root is refuted, it is back there.
abbrev pub IsStep : {State Op Reply : Type 0} → Problem State Op Reply → Configuration State → Option ℕ → List ℕ → List (Frame State) → Option ℕ → Configuration State → (ℕ → Type 0) → ℕ → ControlFlow Outcome Position → Type 0
IsStep p root limit lifted frames left here tells before (Continue at) = GoesOn p root limit lifted frames left here at.longest at.candidate before
IsStep p root limit lifted frames left here tells before (Break outcome) = IsAnswer p root.lifted root.state limit tells outcome × (IsRefutation outcome → here ≡ root)

-- After a step the memo holds what was searched, also where the root is refuted.
abbrev pub HoldsStep : {State Op Reply : Type 0} → Problem State Op Reply → Configuration State → (List Bool → State → Type 0) → List (Frame State) → Configuration State → ControlFlow Outcome Position → Type 0
HoldsStep p root holds frames here (Continue at) = HoldsSearched p holds root.lifted frames here at.candidate
HoldsStep p root holds frames here (Break outcome) = IsRefutation outcome → HoldsSearched p holds root.lifted [] root None

-- The frame's call was lifted from one configuration, and led to the one that the search is at.
pub record IsLifted {State Op Reply : Type 0} (p : Problem State Op Reply) (root : Configuration State) (limit : Option ℕ) (lifted : List ℕ) (frames : List (Frame State)) (left : Option ℕ) (from : Configuration State) (f : Frame State) (here : Configuration State) : Type 0 where
  pub before : List ℕ
  pub progress : IsProgress p root limit before frames left from f.longest (Some f.call)
  pub last : lifted ≡ before ++ f.call ∷ []
  pub state : f.state ≡ from.state
  pub set : here.lifted ≡ with_call from.lifted f.call
  pub next : IsNext p from.lifted from.state f.call here.state
  pub reachable : IsReachable p here.lifted here.state

-- Why no call may be lifted: no lift is left, or the stop answered.
abbrev pub IsRefusal : Option ℕ → (ℕ → Type 0) → Outcome → Type 0
IsRefusal left tells (Found order) = ⊥
IsRefusal left tells (Refuted longest) = ⊥
IsRefusal left tells Undecided = left ≡ Some 0
IsRefusal left tells (Stopped told) = tells told
