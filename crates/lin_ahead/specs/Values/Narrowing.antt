-- Owners that are taken out: the cluster that they would be of crosses another one, or is parted (this project's own).
use Rattle.std.specs.Prelude.{◌≡◌, ◌≢◌, ◌⊎◌, ℕ, ℤ, true, Some, List, slice_get, IsSomeAnd, IsTrue}
use Rattle.lin_object.specs.declared.op.Op.{Op}
use Rattle.lin_object.specs.declared.reply.Reply.{Reply}
use Rattle.lin_object.specs.declared.state.ObjState.{ObjState}
use Rattle.lin_history.specs.declared.problems.problem.ProblemCall.{ProblemCall}
use Rattle.lin_history.specs.Problems.Problem.{Problem}
use Rattle.lin_history.specs.Problems.Lists.{In}
use Rattle.lin_ahead.specs.declared.values.owners.Owners.{Owners}
use Rattle.lin_ahead.specs.Values.Register.{IsOfRegister, value_found}
use Rattle.lin_ahead.specs.Values.Owners.{AreOwners}
use Rattle.lin_ahead.specs.Values.PossibleOwners.{ReturnedBefore, Breaks, AreToldWhereFew}
use Rattle.lin_ahead.specs.Values.Clusters.{IsForced, OfCluster}

-- The call found this value.
abbrev pub ShowsFound : List (ProblemCall Op Reply) → ℤ → ℕ → Type 0
ShowsFound calls v g = IsSomeAnd (slice_get calls g) (λ x. value_found x.op x.returned ≡ Some v)

module _ (rows : List Owners) where
  -- Call c is of the cluster of w, or it is g.
  abbrev pub OfClusterWith : ℕ → ℕ → ℕ → Type 0
  OfClusterWith w g c = (c ≡ g) ⊎ OfCluster rows w c

  -- Both calls are of the cluster of u, and u alone can have written what one of them found.
  abbrev pub AreOfOther : ℕ → ℕ → ℕ → Type 0
  AreOfOther u c d = OfCluster rows u c × OfCluster rows u d × (IsForced rows u c ⊎ IsForced rows u d)

module _ (calls : List (ProblemCall Op Reply)) (rows : List Owners) where
  -- With call g the cluster of w crosses another one: a call of the one returned before one of the other was called, and the other
  -- way round.
  pub record IsCrossed (w g : ℕ) : Type 0 where
    pub other : ℕ
    pub first : ℕ
    pub last : ℕ
    pub early : ℕ
    pub late : ℕ
    pub different : w ≢ other
    pub there : ReturnedBefore calls first early
    pub back : ReturnedBefore calls late last
    pub is_first : OfClusterWith rows w g first
    pub is_last : OfClusterWith rows w g last
    pub others : AreOfOther rows other early late

  -- A call parts the cluster of w with call g: it comes between two of it in real time, and breaks the value that the second found.
  pub record IsParted (w g : ℕ) : Type 0 where
    pub first : ℕ
    pub last : ℕ
    pub between : ℕ
    pub value : ℤ
    pub there : ReturnedBefore calls first between
    pub on : ReturnedBefore calls between last
    pub is_first : OfClusterWith rows w g first
    pub is_last : OfClusterWith rows w g last
    pub found : ShowsFound calls value last
    pub broken : Breaks calls between value

  -- So w is no owner of call g.
  abbrev pub IsTakenOut : ℕ → ℕ → Type 0
  IsTakenOut w g = IsCrossed w g ⊎ IsParted w g

  -- A call of a cluster returned before call g was called: so the start is not what it found.
  pub record IsPastStart (g : ℕ) : Type 0 where
    pub owner : ℕ
    pub member : ℕ
    pub early : ℕ
    pub forced : IsForced rows owner member
    pub is_early : OfCluster rows owner early
    pub there : ReturnedBefore calls early g

  -- The row is that of the call, without some that are no owners.
  pub record IsNarrowedRow (g : ℕ) (row : Owners) : Type 0 where
    pub old : Owners
    pub there : slice_get rows g ≡ Some old
    pub told : IsTrue old.are_told
    pub still : IsTrue row.are_told
    pub each : (w : ℕ) → In w old.calls.items → In w row.calls.items ⊎ IsTakenOut w g
    pub start : IsTrue old.at_start → IsTrue row.at_start ⊎ IsPastStart g

-- What is told of owners is right, whatever problem of a register that starts with this value has these calls; and it is told of
-- calls that found a value.
pub record AreRightRows (calls : List (ProblemCall Op Reply)) (start : ℤ) (rows : List Owners) : Type 0 where
  pub owned : (p : Problem ObjState Op Reply) → p.calls ≡ calls → IsOfRegister p start → ((s t : ObjState) → p.same_state s t ≡ true → s ≡ t) → AreOwners p rows
  pub found : (g : ℕ) (row : Owners) → slice_get rows g ≡ Some row → IsTrue row.are_told → (v : ℤ) × ShowsFound calls v g

-- Where the old rows are right, the new ones are; and where the old ones are told of each call with few owners.
abbrev pub AreNarrowed : List (ProblemCall Op Reply) → List Owners → List Owners → Type 0
AreNarrowed calls old new = ((start : ℤ) → AreRightRows calls start old → AreRightRows calls start new) × (AreToldWhereFew calls old → AreToldWhereFew calls new)
