-- Lists of numbers that share out the numbers below a bound.
use Rattle.std.specs.Prelude.{◌≡◌, ◌≢◌, ◌<◌, ◌≤◌, ℕ, List, [], All, nat_lt, length, slice_index_or}
use Rattle.lin_board.specs.Lists.Totals.{one_if, times}

-- 1 where x is below n, and else 0
abbrev pub once_below : ℕ → ℕ → ℕ
once_below x n = one_if (nat_lt x n)

-- x is in exactly one of the lists, and in that one once
abbrev pub InExactlyOne : ℕ → List (List ℕ) → Type 0
InExactlyOne x lists = (i : ℕ) × (i < length lists) × (times x (slice_index_or lists i []) ≡ 1) × ((j : ℕ) → j < length lists → j ≢ i → times x (slice_index_or lists j []) ≡ 0)

-- x is in none of the lists
abbrev pub InNone : ℕ → List (List ℕ) → Type 0
InNone x lists = All (λ l. times x l ≡ 0) lists

-- the lists divide the numbers below n: each of these is in exactly one list, once, and no other number is in any
pub record Divides (n : ℕ) (lists : List (List ℕ)) : Type 0 where
  pub below : (x : ℕ) → x < n → InExactlyOne x lists
  pub others : (x : ℕ) → n ≤ x → InNone x lists
