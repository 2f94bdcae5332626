-- Two sets of which the second has more calls, but only of a third (this project's own).
use Rattle.std.specs.Prelude.{◌≡◌, ℕ, Bool, true, List, ◌⊎◌}
use Rattle.std.specs.Int.{bit_at}
use Rattle.lin_history.specs.Problems.Continuations.{has}

-- The call is in the second set where it is in the first, and is in the first or the third where it is in the second.
pub record IsFewerAt (a b of : List Bool) (c : ℕ) : Type 0 where
  pub more : has a c ≡ true → has b c ≡ true
  pub within : has b c ≡ true → (has a c ≡ true) ⊎ (has of c ≡ true)

-- The same of the bits of words.
pub record IsFewerBit (a b of k : ℕ) : Type 0 where
  pub more : bit_at a k ≡ 1 → bit_at b k ≡ 1
  pub within : bit_at b k ≡ 1 → (bit_at a k ≡ 1) ⊎ (bit_at of k ≡ 1)

-- It holds of each bit.
abbrev pub IsFewerWord : ℕ → ℕ → ℕ → Type 0
IsFewerWord a b of = (k : ℕ) → IsFewerBit a b of k
