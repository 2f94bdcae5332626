-- Sets of calls, as a flag for each call of the problem.
use Rattle.std.specs.Prelude.{ℕ, ◌+◌, ◌*◌, ◌/◌, ◌%◌, ◌^◌, Bool, true, List, [], ◌∷◌, slice_set, bit_xor}
use Rattle.std.specs.Hash as fed
use Rattle.std.specs.Hash.{HashWrites}
use mathlib.Core.Bool.{cond}
use Rattle.lin_history.specs.Problems.Problem.{Problem}
use Rattle.lin_history.specs.Problems.Continuations.{no_calls}

-- The set with this call too.
abbrev pub with_call : List Bool → ℕ → List Bool
with_call set c = slice_set set c true

-- The set and the calls of the list.
abbrev pub with_calls : List Bool → List ℕ → List Bool
with_calls set [] = set
with_calls set (c ∷ cs) = with_calls (with_call set c) cs

-- The set of the calls of the list.
abbrev pub lifted_set : {State Op Reply : Type 0} → Problem State Op Reply → List ℕ → List Bool
lifted_set p lifted = with_calls (no_calls p) lifted

-- What the calls of a set weigh together. The first flag is that of call n.
unfoldable pub total_from : (ℕ → ℕ) → ℕ → List Bool → ℕ
total_from weight n [] = 0
total_from weight n (flag ∷ flags) = cond flag (weight n) 0 + total_from weight (n + 1) flags

-- The sum of the numbers of the calls in the set.
unfoldable pub sum_of : List Bool → ℕ
sum_of set = total_from (λ c. c) 0 set

-- A number whose lower half depends on its upper half too.
unfoldable pub folded : ℕ → ℕ
folded n = bit_xor n (n / 2 ^ 32)

-- The weight of a call in the hash of a set: 64 bits that look drawn at random.
unfoldable pub weight_of : ℕ → ℕ
weight_of c = folded (folded ((c + 1) % 2 ^ 64 * 0x9E37_79B9_7F4A_7C15 % 2 ^ 64) * 0xBF58_476D_1CE4_E5B9 % 2 ^ 64)

-- The hash of a set: the sum of the weights of its calls, modulo 2 ^ 64.
unfoldable pub hash_of : List Bool → ℕ
hash_of set = total_from weight_of 0 set % 2 ^ 64

-- What a set writes to a hasher: its hash, as one word.
abbrev pub fed_set : List Bool → HashWrites
fed_set set = fed.u64 (hash_of set)
