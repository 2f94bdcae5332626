-- Calls that are stranded: once the state is changed, one call alone could still own them, and cannot own them all (this project's own).
use Rattle.std.specs.Prelude.{◌≡◌, ◌≢◌, ◌⊎◌, ℕ, Bool, Some, List, slice_get, IsTrue}
use Rattle.lin_history.specs.Problems.Problem.{Problem}
use Rattle.lin_history.specs.Problems.LegalLists.{Legal}
use Rattle.lin_history.specs.Problems.Precedence.{Before}
use Rattle.lin_ahead.specs.declared.values.owners.Owners.{Owners}
use Rattle.lin_ahead.specs.Values.Owners.{CanFollow, Changes}
use Rattle.lin_ahead.specs.Values.Due.{IsDue}

-- Some calls lead to the state.
abbrev pub Reached : {State Op Reply : Type 0} → Problem State Op Reply → State → Type 0
Reached p s = (l : List ℕ) × Legal p p.start l s

-- There is one state alone in which the call can follow.
abbrev pub FindsOneState : {State Op Reply : Type 0} → Problem State Op Reply → ℕ → Type 0
FindsOneState {State} p g = (s t : State) → Reached p s → Reached p t → CanFollow p s g → CanFollow p t g → s ≡ t

-- So it is with each call of which owners are told.
abbrev pub FindOneState : {State Op Reply : Type 0} → Problem State Op Reply → List Owners → Type 0
FindOneState p rows = (g : ℕ) (row : Owners) → slice_get rows g ≡ Some row → IsTrue row.are_told → FindsOneState p g

-- The call will be owned by call w, if call c changes the state first: of its owners w alone is not lifted.
abbrev pub IsLeftTo : {State Op Reply : Type 0} → Problem State Op Reply → List Bool → ℕ → ℕ → ℕ → Type 0
IsLeftTo p set c w y = IsDue p set (Some w) y × (y ≢ c)

-- It is of the cluster of w: it is w, or will be owned by it.
abbrev pub IsOfCluster : {State Op Reply : Type 0} → Problem State Op Reply → List Bool → ℕ → ℕ → ℕ → Type 0
IsOfCluster p set c w y = (y ≡ w) ⊎ IsLeftTo p set c w y

-- Both calls are of the cluster of w, and one of them will be owned by it: so it changes the state.
abbrev pub AreOfCluster : {State Op Reply : Type 0} → Problem State Op Reply → List Bool → ℕ → ℕ → ℕ → ℕ → Type 0
AreOfCluster p set c w x y = IsOfCluster p set c w x × IsOfCluster p set c w y × ((x ≢ w) ⊎ (y ≢ w))

-- Two clusters cross: a call of the one returned before one of the other was called, and the other way round.
pub record AreCrossed {State Op Reply : Type 0} (p : Problem State Op Reply) (set : List Bool) (c : ℕ) : Type 0 where
  pub writer : ℕ
  pub other : ℕ
  pub first : ℕ
  pub last : ℕ
  pub early : ℕ
  pub late : ℕ
  pub different : writer ≢ other
  pub one : AreOfCluster p set c writer first last
  pub two : AreOfCluster p set c other early late
  pub there : Before p first early
  pub back : Before p late last

-- A call stands between two of a cluster in real time, of which w will own the second one.
abbrev pub StandsBetween : {State Op Reply : Type 0} → Problem State Op Reply → List Bool → ℕ → ℕ → ℕ → ℕ → ℕ → Type 0
StandsBetween p set c w first last x = Before p first x × Before p x last × IsOfCluster p set c w first × IsLeftTo p set c w last

-- And it does not leave the state at hand, which the second one found.
pub record IsParted {State Op Reply : Type 0} (p : Problem State Op Reply) (set : List Bool) (s : State) (c : ℕ) : Type 0 where
  pub writer : ℕ
  pub first : ℕ
  pub last : ℕ
  pub between : ℕ
  pub stands : StandsBetween p set c writer first last between
  pub found : FindsOneState p last
  pub here : CanFollow p s last
  pub changes : Changes p s between

-- Calls are stranded once call c changes the state.
abbrev pub AreStranded : {State Op Reply : Type 0} → Problem State Op Reply → List Bool → State → ℕ → Type 0
AreStranded p set s c = AreCrossed p set c ⊎ IsParted p set s c
