-- Sets of calls as words of 64 calls: how many leading words are full, and the words after those.
use Rattle.std.specs.Prelude.{◌≡◌, ◌≢◌, ℕ, ◌-◌, ◌*◌, ◌/◌, ◌%◌, ◌^◌, ◌<◌, ◌≤◌, Bool, false, ◌==◌, List, length, map, slice_index, nat_lt, bit_or}
use Rattle.std.specs.Int.{bit_at}
use Rattle.std.specs.List.{range_with_len}
use mathlib.Core.Bool.{cond}
use Rattle.lin_history.specs.declared.limits.TheConstants.{MAX_CALLS_ON_OBJECT}
use Rattle.lin_search.specs.CallSet.{hash_of, sum_of}

-- The word at an index: so many leading words are full, then those of the list come, and no call is in any word after them.
unfoldable pub word_at : ℕ → List ℕ → ℕ → ℕ
word_at full words i = cond (nat_lt i full) (2 ^ 64 - 1) (slice_index words (i - full))

-- Whether the call is in the set that has these words.
unfoldable pub has_bit : (ℕ → ℕ) → ℕ → Bool
has_bit word c = bit_at (word (c / 64)) (c % 64) == 1

-- A flag for each of so many calls.
unfoldable pub flags_of : ℕ → ℕ → List ℕ → List Bool
flags_of calls full words = map (has_bit (word_at full words)) (range_with_len 0 calls)

-- The one way to keep a set: the first word that is kept is not full, the last is not empty, and no call from `calls` on is in the set.
pub record IsWindow (calls full : ℕ) (words : List ℕ) : Type 0 where
  pub first : 0 < length words → slice_index words 0 ≢ 2 ^ 64 - 1
  pub last : 0 < length words → slice_index words (length words - 1) ≢ 0
  pub small : (i : ℕ) → slice_index words i < 2 ^ 64
  pub within : (c : ℕ) → calls ≤ c → has_bit (word_at full words) c ≡ false

-- The words have this call more.
pub record Adds (old new : ℕ → ℕ) (c : ℕ) : Type 0 where
  pub same : new (c / 64) ≡ bit_or (old (c / 64)) (1 * 2 ^ (c % 64) % 2 ^ 64)
  pub other : (i : ℕ) → i ≢ c / 64 → new i ≡ old i

-- How a set is kept: its words in that one way, with its hash and the sum of its calls.
pub record IsCallSet (calls full : ℕ) (words : List ℕ) (hash sum : ℕ) : Type 0 where
  pub few : calls ≤ MAX_CALLS_ON_OBJECT
  pub window : IsWindow calls full words
  pub hashed : hash ≡ hash_of (flags_of calls full words)
  pub summed : sum ≡ sum_of (flags_of calls full words)
