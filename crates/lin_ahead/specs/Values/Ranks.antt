-- Ranks of a register's values. A value that has one comes about once at most (this project's own).
use Rattle.std.specs.Prelude.{◌≡◌, ◌≢◌, ◌⊎◌, ℕ, ◌<◌, ℤ, nat_lt, Option, Some, None, List, slice_get, IsSome, IsSomeAnd, IsTrue, if◌then◌else◌}
use Rattle.lin_object.specs.declared.op.Op.{Op}
use Rattle.lin_object.specs.declared.op.Op.TheVariants.{Cas}
use Rattle.lin_object.specs.declared.reply.Reply.{Reply}
use Rattle.lin_history.specs.declared.problems.problem.ProblemCall.{ProblemCall}
use Rattle.lin_ahead.specs.declared.values.ranks.TheConstants.{UNRANKED}
use Rattle.lin_ahead.specs.Values.Register.{value_written, value_found}
use Rattle.lin_ahead.specs.Values.PossibleOwners.{ReturnedBefore}
use Rattle.lin_ahead.specs.Values.TakenTwice.{takes}

-- The rank of a value by its index, as a list says of it. A value without an index is lower than all others.
abbrev pub rank_at : Option ℕ → Option ℕ
rank_at None = None
rank_at (Some n) = if nat_lt n UNRANKED then Some n else None

abbrev pub rank_by : List ℕ → Option ℕ → Option ℕ
rank_by ranks None = Some 0
rank_by ranks (Some index) = rank_at (slice_get ranks index)

module _ (calls : List (ProblemCall Op Reply)) where
  -- The call took the value away: it is a cas from it to another one that returned true.
  abbrev pub TookAway : ℤ → ℕ → Type 0
  TookAway v g = IsSomeAnd (slice_get calls g) (λ x. IsTrue (takes x.op x.returned) × (value_found x.op x.returned ≡ Some v))

  -- The call found the value.
  abbrev pub Found : ℤ → ℕ → Type 0
  Found v g = IsSomeAnd (slice_get calls g) (λ x. value_found x.op x.returned ≡ Some v)

module _ (rank : ℤ → Option ℕ) where
  -- Where v has a rank, u is v, or has a lower one.
  abbrev pub IsUnder : ℤ → ℤ → Type 0
  IsUnder u v = (n : ℕ) → rank v ≡ Some n → (u ≡ v) ⊎ ((m : ℕ) × (rank u ≡ Some m) × (m < n))

  -- The operation writes v where it finds v or a value of a lower rank alone; or v has no rank.
  abbrev pub IsFromUnder : Op → ℤ → Type 0
  IsFromUnder (Cas a b) v = IsUnder a v
  IsFromUnder op v = rank v ≡ None

  -- The call keeps to the ranks: so it is with the value that it may write, if there is one. A pending call may write, too.
  abbrev pub KeepsRanks : ProblemCall Op Reply → Type 0
  KeepsRanks x = (v : ℤ) → value_written x.op x.returned ≡ Some v → IsFromUnder x.op v

  -- The call found or wrote a value which has no rank, or a higher one than v.
  abbrev pub ShowsOver : ℤ → ProblemCall Op Reply → Type 0
  ShowsOver v x = (w : ℤ) × ((value_found x.op x.returned ≡ Some w) ⊎ (value_written x.op x.returned ≡ Some w)) × (IsUnder w v → ⊥)

  module _ (calls : List (ProblemCall Op Reply)) where
    -- Each call keeps to the ranks.
    abbrev pub AreRanked : Type 0
    AreRanked = (c : ℕ) (x : ProblemCall Op Reply) → slice_get calls c ≡ Some x → KeepsRanks x

    -- Two calls took away one and the same value that has a rank.
    abbrev pub AreTwo : Type 0
    AreTwo = (v : ℤ) × IsSome (rank v) × ((g h : ℕ) × (g ≢ h) × TookAway calls v g × TookAway calls v h)

    -- A call found a value that has a rank, and was called after one returned that showed a value of no rank or of a higher one.
    abbrev pub IsLate : Type 0
    IsLate = (v : ℤ) × ((c g : ℕ) × ReturnedBefore calls c g × IsSomeAnd (slice_get calls c) (ShowsOver v) × Found calls v g)

-- There are ranks of the values, and by them two calls cannot both be: they took one value away, or one found its value too late.
abbrev pub AreRanksBroken : List (ProblemCall Op Reply) → Type 0
AreRanksBroken calls = (rank : ℤ → Option ℕ) × AreRanked rank calls × (AreTwo rank calls ⊎ IsLate rank calls)
