-- A search that tries the calls of each configuration upwards or downwards, as it likes (this project's own).
use Rattle.std.specs.Prelude.{◌≡◌, ℕ, ◌+◌, ◌<◌, ◌≤◌, Bool, true, false, Option, Some, None, List, [], ◌∷◌, ◌++◌, ◌⊎◌, IfSome, map}
use Rattle.std.proofs.Common.{ControlFlow, Continue, Break}
use Rattle.lin_object.specs.declared.step_back.Change.{Change}
use Rattle.lin_history.specs.Problems.Problem.{Problem}
use Rattle.lin_history.specs.Problems.Lists.{IsLongest}
use Rattle.lin_history.specs.Problems.Continuations.{IsContinuation, IsCompletion}
use Rattle.lin_history.specs.Problems.Configurations.{IsReachable}
use Rattle.lin_search.specs.declared.longest.Longest.{Longest}
use Rattle.lin_search.specs.Configuration.{Configuration}
use Rattle.lin_search.specs.CallSet.{lifted_set}
use Rattle.lin_search.specs.NextCall.{IsNext}
use Rattle.lin_search.specs.Entries.{IsMinimal}
use Rattle.lin_search.specs.Path.{Frame, KeptFrame, frame_of, state_at}
use Rattle.lin_workers.specs.declared.workers.scouts.Position.{Position}

-- Call d is tried before call c: upwards the smaller one, downwards the greater.
abbrev pub ComesBefore : Bool → (c d : ℕ) → Type 0
ComesBefore true c d = d < c
ComesBefore false c d = c < d

-- The calls that come before the candidate; all of them, where there is none.
abbrev pub WasTried : Bool → Option ℕ → ℕ → Type 0
WasTried up None d = Unit {0}
WasTried up (Some c) d = ComesBefore up c d

-- The call, and those that come before it.
abbrev pub IsThrough : Bool → ℕ → ℕ → Type 0
IsThrough up c d = (d ≡ c) ⊎ ComesBefore up c d

-- The list has no call, or P holds of its first.
abbrev pub BeginsIn : (ℕ → Type 0) → List ℕ → Type 0
BeginsIn P [] = Unit {0}
BeginsIn P (c ∷ cs) = P c

-- What the calls of which P holds tell of a configuration: none begins a completion, and this is the longest that they begin.
pub record IsSearchedBy {State Op Reply : Type 0} (p : Problem State Op Reply) (here : Configuration State) (P : ℕ → Type 0) (longest : Longest) : Type 0 where
  pub none : (l : List ℕ) → IsCompletion p here.lifted here.state l → BeginsIn P l → ⊥
  pub longest_is : IsLongest (λ l. IsContinuation p here.lifted here.state l × BeginsIn P l) longest.more longest.first

-- The first minimal call that comes after all of which P holds, where it holds of each minimal one before it; or none, where
-- P holds of each minimal call.
abbrev pub IsNextTurn : {State Op Reply : Type 0} → Problem State Op Reply → List Bool → Bool → (ℕ → Type 0) → Option ℕ → Type 0
IsNextTurn p set up P None = (d : ℕ) → IsMinimal p set d → P d
IsNextTurn p set up P (Some c) = IsMinimal p set c × ((d : ℕ) → IsMinimal p set d → ComesBefore up c d → P d) × ((d : ℕ) → P d → ComesBefore up c d)

-- Continuations of so many calls that begin with a call are better than the longest before: there are more, or as many,
-- and the call is smaller than all before it.
abbrev pub IsBetter : Bool → (before now : ℕ) → Type 0
IsBetter true before now = before < now
IsBetter false before now = before ≤ now

-- What the calls through this one tell, where it leads to a configuration with this longest.
pub record IsWithTurn (up : Bool) (longest : Longest) (c : ℕ) (deep after : Longest) : Type 0 where
  pub better : IsBetter up longest.more (deep.more + 1) → after ≡ record { more = deep.more + 1; first = Some c }
  pub not_better : (IsBetter up longest.more (deep.more + 1) → ⊥) → after ≡ longest

-- Where a scout is: a reachable configuration, what the calls before the candidate tell of it.
pub record IsTurnAt {State Op Reply : Type 0} (p : Problem State Op Reply) (here : Configuration State) (up : Bool) (longest : Longest) (candidate : Option ℕ) : Type 0 where
  pub reachable : IsReachable p here.lifted here.state
  pub searched : IsSearchedBy p here (WasTried up candidate) longest
  pub minimal : IfSome candidate (λ (c : ℕ). IsMinimal p here.lifted c)

-- A frame, and whether the calls of its configuration are tried upwards.
pub record Turn (State : Type 0) : Type 0 where
  pub frame : Frame State
  pub up : Bool

-- A turn as a scout keeps it: with what takes its call's step back in place of the state before.
pub record KeptTurn (State : Type 0) : Type 0 where
  pub frame : KeptFrame State
  pub up : Bool

-- The turn, where its call led to this state.
abbrev pub turn_of : {State : Type 0} → (Change → State → State) → KeptTurn State → State → Turn State
turn_of undone turn t = record { frame = frame_of undone turn.frame t; up = turn.up }

-- The turns, where the last one's call led to this state.
abbrev pub turns_of : {State : Type 0} → (Change → State → State) → List (KeptTurn State) → State → List (Turn State)
turns_of undone [] t = []
turns_of {State} undone (turn ∷ turns) t =
    turn_of undone turn (state_at undone (map (λ (k : KeptTurn State). k.frame) turns) t) ∷ turns_of undone turns t

-- The list from its end.
abbrev pub turned : {A : Type 0} → List A → List A
turned [] = []
turned (x ∷ xs) = turned xs ++ x ∷ []

-- The turns, the last first, lead to this state, with these calls lifted.
abbrev pub IsTrail : {State Op Reply : Type 0} → Problem State Op Reply → List ℕ → State → List (Turn State) → Type 0
IsTrail p lifted s [] = Unit {0}
IsTrail {State} p lifted s (t ∷ ts) =
    (before : List ℕ) × (lifted ≡ before ++ t.frame.call ∷ [])
    × IsNext p (lifted_set p before) t.frame.state t.frame.call s
    × IsTurnAt p (record { lifted = lifted_set p before; state = t.frame.state }) t.up t.frame.longest (Some t.frame.call)
    × IsTrail p before t.frame.state ts

-- The calls that are lifted are those of the configuration, to which the turns lead.
pub record IsTrailTo {State Op Reply : Type 0} (p : Problem State Op Reply) (lifted : List ℕ) (turns : List (Turn State)) (here : Configuration State) : Type 0 where
  pub set : lifted_set p lifted ≡ here.lifted
  pub back : List (Turn State)
  pub order : turns ≡ turned back
  pub trail : IsTrail p lifted here.state back

-- How far a scout has come.
pub record IsScouted {State Op Reply : Type 0} (p : Problem State Op Reply) (lifted : List ℕ) (turns : List (Turn State)) (here : Configuration State) (up : Bool) (longest : Longest) (candidate : Option ℕ) : Type 0 where
  pub at : IsTurnAt p here up longest candidate
  pub way : IsTrailTo p lifted turns here

-- After a step the scout goes on from here, or ends.
abbrev pub IsScoutStep : {State Op Reply : Type 0} → Problem State Op Reply → List ℕ → List (Turn State) → Configuration State → ControlFlow (Unit {0}) Position → Type 0
IsScoutStep p lifted turns here (Continue at) = IsScouted p lifted turns here at.is_up at.longest at.candidate
IsScoutStep p lifted turns here (Break ended) = Unit {0}

-- The call of the turn was lifted last, and led to this configuration; the other turns lead to where it was lifted.
pub record IsTurnFrom {State Op Reply : Type 0} (p : Problem State Op Reply) (lifted : List ℕ) (turns : List (Turn State)) (here : Configuration State) (turn : Turn State) : Type 0 where
  pub set : lifted_set p lifted ≡ here.lifted
  pub back : List (Turn State)
  pub order : turns ≡ turned back
  pub trail : IsTrail p lifted here.state (turn ∷ back)
