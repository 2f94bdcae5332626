-- The call that made the state which another call found: the last one in front of it that changed the state (this project's own).
use Rattle.std.specs.Prelude.{◌≡◌, ◌⊎◌, ℕ, Bool, true, false, Some, List, ◌∷◌, ◌++◌, slice_get, IsTrue}
use Rattle.lin_history.specs.Problems.Problem.{Problem}
use Rattle.lin_history.specs.Problems.Lists.{In}
use Rattle.lin_history.specs.Problems.LegalLists.{next, Legal}
use Rattle.lin_history.specs.Problems.Linearizations.{IsLinearization}
use Rattle.lin_ahead.specs.declared.values.owners.Owners.{Owners}

-- Call c has a step at the state, and it leads to an equal one.
abbrev pub Leaves : {State Op Reply : Type 0} → Problem State Op Reply → State → ℕ → Type 0
Leaves {State} p s c = (t : State) × (next p s c ≡ Some t) × (p.same_state t s ≡ true)

-- It does not: it has no step at the state, or it leads to another one.
abbrev pub Changes : {State Op Reply : Type 0} → Problem State Op Reply → State → ℕ → Type 0
Changes p s c = Leaves p s c → ⊥

-- Call g has a step at the state whose reply fits.
abbrev pub CanFollow : {State Op Reply : Type 0} → Problem State Op Reply → State → ℕ → Type 0
CanFollow {State} p s g = (t : State) × (next p s g ≡ Some t)

-- Each of these calls leaves the state as it is.
abbrev pub AllLeave : {State Op Reply : Type 0} → Problem State Op Reply → State → List ℕ → Type 0
AllLeave p s calls = (c : ℕ) → In c calls → Leaves p s c

-- The last of the calls `early` that changed the state is one of these.
pub record LastChange {State Op Reply : Type 0} (p : Problem State Op Reply) (calls : List ℕ) (early : List ℕ) : Type 0 where
  pub owner : ℕ
  pub front : List ℕ
  pub since : List ℕ
  pub place : early ≡ front ++ owner ∷ since
  pub one_of : In owner calls
  pub from : State
  pub to : State
  pub before : Legal p p.start front from
  pub step : next p from owner ≡ Some to
  pub changed : p.same_state to from ≡ false
  pub kept : AllLeave p to since

-- Wherever call g stands in a linearization, the last call in front of it that changed the state is one of these; or none did, if
-- that may be.
abbrev pub IsOwnedBy : {State Op Reply : Type 0} → Problem State Op Reply → List ℕ → Bool → ℕ → Type 0
IsOwnedBy p calls at_start g = (l early late : List ℕ) → IsLinearization p l → l ≡ early ++ g ∷ late → LastChange p calls early ⊎ (IsTrue at_start × AllLeave p p.start early)

-- So it is with each call of which owners are told.
abbrev pub AreOwners : {State Op Reply : Type 0} → Problem State Op Reply → List Owners → Type 0
AreOwners p rows = (g : ℕ) (row : Owners) → slice_get rows g ≡ Some row → IsTrue row.are_told → IsOwnedBy p row.calls.items row.at_start g
