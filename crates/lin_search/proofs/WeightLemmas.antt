-- What the calls of a set weigh together: with none, with one more, and at most.
use Rattle.std.proofs.Common.{◌≡◌, ℕ, zero, suc, ◌+◌, ◌*◌, ◌%◌, ◌^◌, ◌<◌, ◌≤◌, Bool, true, false, List, [], ◌∷◌, length, replicate, get_or, set, refl, arith}
use Rattle.std.proofs.Math.Nat.{mod-add-mod}
use Rattle.lin_history.specs.declared.limits.TheConstants.{MAX_CALLS_ON_OBJECT}
use Rattle.lin_search.specs.CallSet.{total_from, sum_of, hash_of, weight_of}

module _ (weight : ℕ → ℕ) where
  pub total_none : (n calls : ℕ) → total_from weight n (replicate calls false) ≡ 0
  unfolding total_from
  total_none n zero = refl
  total_none n (suc calls) = omega (arith, total_none (n + 1) calls)

  pub total_with : (n : ℕ) (flags : List Bool) (c : ℕ) → c < length flags → get_or flags c false ≡ false → total_from weight n (set flags c true) ≡ total_from weight n flags + weight (n + c)
  unfolding total_from
  total_with n (false ∷ flags) zero h e =
      let place : n + 0 ≡ n = omega arith in
      rw place (omega arith)
  total_with n (true ∷ flags) zero h e = absurd (cc)
  total_with n (flag ∷ flags) (suc c) h e =
      let place : (n + 1) + c ≡ n + suc c = omega arith in
      let more : total_from weight (n + 1) (set flags c true) ≡ total_from weight (n + 1) flags + weight (n + suc c) = rw place at (total_with (n + 1) flags c (omega arith) e) in
      omega arith
  total_with n [] c h e = absurd (omega arith)

  -- the same where the sums wrap at 64 bits
  pub total_with_wrapped : (flags : List Bool) (c : ℕ) → c < length flags → get_or flags c false ≡ false → (total_from weight 0 flags % 2 ^ 64 + weight c) % 2 ^ 64 ≡ total_from weight 0 (set flags c true) % 2 ^ 64
  total_with_wrapped flags c h e =
      let place : 0 + c ≡ c = omega arith in
      let more : total_from weight 0 (set flags c true) ≡ total_from weight 0 flags + weight c = rw place at (total_with 0 flags c h e) in
      rw more (mod-add-mod (total_from weight 0 flags) (2 ^ 64) (weight c))

pub hash_none : (calls : ℕ) → hash_of (replicate calls false) ≡ 0
unfolding hash_of
hash_none calls = rw (total_none weight_of 0 calls) refl

pub hash_small : (flags : List Bool) → hash_of flags < 2 ^ 64
unfolding hash_of
hash_small flags = omega arith

pub sum_none : (calls : ℕ) → sum_of (replicate calls false) ≡ 0
unfolding sum_of
sum_none calls = rw (total_none (λ c. c) 0 calls) refl

pub hash_with : (flags : List Bool) (c : ℕ) → c < length flags → get_or flags c false ≡ false → (hash_of flags + weight_of c) % 2 ^ 64 ≡ hash_of (set flags c true)
unfolding hash_of
hash_with flags c h e = total_with_wrapped weight_of flags c h e

pub sum_with : (flags : List Bool) (c : ℕ) → c < length flags → get_or flags c false ≡ false → sum_of flags + c ≡ sum_of (set flags c true)
unfolding sum_of
sum_with flags c h e = let more = total_with (λ c. c) 0 flags c h e in omega (arith, more)

-- the sum of the numbers of calls that are below a limit
total_within : (n : ℕ) (flags : List Bool) → n + length flags ≤ MAX_CALLS_ON_OBJECT → total_from (λ c. c) n flags ≤ MAX_CALLS_ON_OBJECT * length flags
unfolding total_from
total_within n [] h = omega arith
total_within n (true ∷ flags) h = let rest = total_within (n + 1) flags (omega (arith, h)) in omega (arith, rest, h)
total_within n (false ∷ flags) h = let rest = total_within (n + 1) flags (omega (arith, h)) in omega (arith, rest, h)

pub sum_within : (flags : List Bool) → length flags ≤ MAX_CALLS_ON_OBJECT → sum_of flags ≤ MAX_CALLS_ON_OBJECT * MAX_CALLS_ON_OBJECT
unfolding sum_of
sum_within flags h = let total = total_within 0 flags (omega (arith, h)) in omega (arith, total, h)
