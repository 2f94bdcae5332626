-- The path of a depth-first search from its root to the configuration that it is at.
use Rattle.std.specs.Prelude.{ℕ, Bool, List, [], ◌∷◌, map}
use Rattle.lin_object.specs.StepBacks.{state_before}
use Rattle.lin_object.specs.declared.step_back.Change.{Change}
use Rattle.lin_object.specs.declared.step_back.StepBack.{StepBack}
use Rattle.lin_search.specs.declared.longest.Longest.{Longest}
use Rattle.lin_search.specs.CallSet.{with_call}
use Rattle.lin_search.specs.Configuration.{Configuration}

-- A state on the path, the call that leads on from it, and what the longest of the continuations that begin with a call before that one tell.
pub record Frame (State : Type 0) : Type 0 where
  pub state : State
  pub call : ℕ
  pub longest : Longest

-- A frame with the configuration of its state.
pub record Level (State : Type 0) : Type 0 where
  pub config : Configuration State
  pub call : ℕ
  pub longest : Longest

-- The frames with their configurations: the first has this set of calls, and each one more has the call of the frame before it too.
abbrev pub levels : {State : Type 0} → List Bool → List (Frame State) → List (Level State)
levels set [] = []
levels set (f ∷ fs) =
    record { config = record { lifted = set; state = f.state }; call = f.call; longest = f.longest } ∷ levels (with_call set f.call) fs

-- The calls that lead from the first configuration to where the search is.
abbrev pub calls_of : {State : Type 0} → List (Frame State) → List ℕ
calls_of {State} frames = map (λ (f : Frame State). f.call) frames

-- A frame as a path keeps it: with what takes its call's step back in place of the state before.
pub record KeptFrame (State : Type 0) : Type 0 where
  pub back : StepBack State
  pub call : ℕ
  pub longest : Longest

-- The calls of frames as they are kept.
abbrev pub kept_calls : {State : Type 0} → List (KeptFrame State) → List ℕ
kept_calls {State} frames = map (λ (f : KeptFrame State). f.call) frames

-- The frame, where its call led to this state.
abbrev pub frame_of : {State : Type 0} → (Change → State → State) → KeptFrame State → State → Frame State
frame_of undone f t = record { state = state_before undone f.back t; call = f.call; longest = f.longest }

-- The state that the first of the frames begins in, where the last one's call led to this state.
abbrev pub state_at : {State : Type 0} → (Change → State → State) → List (KeptFrame State) → State → State
state_at undone [] t = t
state_at undone (f ∷ fs) t = state_before undone f.back (state_at undone fs t)

-- The frames, where the last one's call led to this state.
abbrev pub frames_of : {State : Type 0} → (Change → State → State) → List (KeptFrame State) → State → List (Frame State)
frames_of undone [] t = []
frames_of undone (f ∷ fs) t = frame_of undone f (state_at undone fs t) ∷ frames_of undone fs t
