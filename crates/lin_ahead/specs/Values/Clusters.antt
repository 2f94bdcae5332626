-- Calls that one call owns (this project's own).
use Rattle.std.specs.Prelude.{◌≡◌, ◌≢◌, ◌⊎◌, ◌&&◌, ℕ, ◌<◌, ◌≤◌, ◌^◌, nat_eq, Bool, not, Some, List, length, slice_get, IsSomeAnd, IsTrue}
use Rattle.lin_object.specs.declared.op.Op.{Op}
use Rattle.lin_object.specs.declared.reply.Reply.{Reply}
use Rattle.lin_history.specs.declared.problems.problem.ProblemCall.{ProblemCall}
use Rattle.lin_history.specs.Problems.Needs.{NeedNumbers}
use Rattle.lin_ahead.specs.declared.values.needed_pairs.CallNumbers.{CallNumbers}
use Rattle.lin_ahead.specs.declared.values.owners.Owners.{Owners}
use Rattle.lin_ahead.specs.Values.TakenTwice.{IsSoleOwner}

-- Call w alone can have written what call g found.
abbrev pub IsForced : List Owners → ℕ → ℕ → Type 0
IsForced rows w g = IsSomeAnd (slice_get rows g) (λ owners. IsSoleOwner owners (Some w))

-- No call can have written what was found, nor was it there from the start on.
abbrev pub is_nowhere : Owners → Bool
is_nowhere owners = owners.are_told && nat_eq (length owners.calls.items) 0 && not owners.at_start

-- A call found what is nowhere.
abbrev pub FoundNowhere : List Owners → Type 0
FoundNowhere rows = (g : ℕ) × IsSomeAnd (slice_get rows g) (λ owners. IsTrue (is_nowhere owners))

-- The call is of the cluster of w: it is w, or what it found was written by w alone.
abbrev pub OfCluster : List Owners → ℕ → ℕ → Type 0
OfCluster rows w c = (c ≡ w) ⊎ IsForced rows w c

module _ (calls : List (ProblemCall Op Reply)) where
  -- The call's return event has this number.
  abbrev pub Returned : ℕ → ℕ → Type 0
  Returned c m = IsSomeAnd (slice_get calls c) (λ x. IsSomeAnd x.returned (λ r. r.0 ≡ m))

  -- The call's call event has this number or a greater one.
  abbrev pub CalledBy : ℕ → ℕ → Type 0
  CalledBy n c = IsSomeAnd (slice_get calls c) (λ x. n ≤ x.called)

  -- The numbers are at least as wide as this call.
  pub record Covers (numbers : CallNumbers) (c : ℕ) : Type 0 where
    pub by : (m : ℕ) → Returned c m → numbers.by ≤ m
    pub from : (n : ℕ) → n ≤ 2 ^ 32 → CalledBy n c → n ≤ numbers.from

  -- The numbers, made as wide as these two calls, and no wider.
  pub record AreWidened (a b : ℕ) (old new : CallNumbers) : Type 0 where
    pub by : (new.by ≡ old.by) ⊎ ((c : ℕ) × ((c ≡ a) ⊎ (c ≡ b)) × Returned c new.by)
    pub from : (new.from ≡ old.from) ⊎ ((new.from ≤ 2 ^ 32) × ((c : ℕ) × ((c ≡ a) ⊎ (c ≡ b)) × CalledBy new.from c))
    pub less : new.by ≤ old.by
    pub more : old.from ≤ new.from
    pub one : Covers new a
    pub other : Covers new b

module _ (calls : List (ProblemCall Op Reply)) (rows : List Owners) where
  -- The number of call a: of a return in its cluster, if it has another call; or it is beyond all events.
  abbrev pub IsClusterBy : ℕ → ℕ → Type 0
  IsClusterBy a m = (2 ^ 32 ≤ m) ⊎ (((g : ℕ) × IsForced rows a g) × ((i : ℕ) × OfCluster rows a i × Returned calls i m))

  -- The number of call b: up to that of a call event in its cluster, if it has another call; or it is 0.
  abbrev pub IsClusterFrom : ℕ → ℕ → Type 0
  IsClusterFrom b n = (n ≡ 0) ⊎ ((n ≤ 2 ^ 32) × (((g : ℕ) × IsForced rows b g) × ((j : ℕ) × OfCluster rows b j × CalledBy calls n j)))

  -- By its numbers call b needs call a: a call of the cluster of a returned before one of the cluster of b was called.
  abbrev pub NeedsByNumbers : ℕ → ℕ → Type 0
  NeedsByNumbers a b = (m n : ℕ) × IsClusterBy a m × IsClusterFrom b n × (m < n)

  -- Two calls need each other.
  abbrev pub NeedEachOther : Type 0
  NeedEachOther = (a b : ℕ) × (a ≢ b) × (a < length calls) × (b < length calls) × NeedsByNumbers a b × NeedsByNumbers b a

  -- Rows with the numbers of the calls: of those that are right the least event by which a call is needed, and the greatest number
  -- up to which it needs others.
  pub record AreClusterNumbers (numbers : NeedNumbers) : Type 0 where
    pub each_by : length numbers.by ≡ length calls
    pub each_from : length numbers.from ≡ length calls
    pub by : (a m : ℕ) → slice_get numbers.by a ≡ Some m → IsClusterBy a m × ((k : ℕ) → k < 2 ^ 32 → IsClusterBy a k → m ≤ k)
    pub from : (b n : ℕ) → slice_get numbers.from b ≡ Some n → IsClusterFrom b n × ((k : ℕ) → IsClusterFrom b k → k ≤ n)

  -- The numbers of each call, by the first rows, so many.
  pub record AreNumbersTo (count : ℕ) (numbers : List CallNumbers) : Type 0 where
    pub each : length numbers ≡ length calls
    pub by : (w : ℕ) (n : CallNumbers) → slice_get numbers w ≡ Some n → IsClusterBy w n.by
    pub from : (w : ℕ) (n : CallNumbers) → slice_get numbers w ≡ Some n → IsClusterFrom w n.from
    pub covers : (w g : ℕ) (n : CallNumbers) → slice_get numbers w ≡ Some n → g < count → IsForced rows w g → Covers calls n w × Covers calls n g
