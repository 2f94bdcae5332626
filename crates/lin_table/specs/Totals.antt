-- Sums over lists.
use Rattle.std.specs.Prelude.{ℕ, ◌+◌, ◌==◌, List, [], ◌∷◌, cond, ltb}

-- the sum of f over a list
abbrev pub total : {X : Type 0} → (X → ℕ) → List X → ℕ
total f [] = 0
total f (x ∷ xs) = f x + total f xs

-- 1 for the numbers below n, and 0 for others
abbrev pub once_below : ℕ → ℕ → ℕ
once_below x n = cond (ltb x n) 1 0

-- 1 where the numbers are the same, and 0 else
abbrev pub one_if_same : ℕ → ℕ → ℕ
one_if_same x y = cond (x == y) 1 0
