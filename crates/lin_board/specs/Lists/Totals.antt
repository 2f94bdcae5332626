-- Sums over a list, and how often a number is in one.
use Rattle.std.specs.Prelude.{ℕ, ◌+◌, ◌==◌, List, [], ◌∷◌, Bool, if◌then◌else◌}

-- 1 for true, and 0 for false
abbrev pub one_if : Bool → ℕ
one_if b = if b then 1 else 0

-- f of each element, added up
abbrev pub total : {X : Type 0} → (X → ℕ) → List X → ℕ
total f [] = 0
total f (x ∷ xs) = f x + total f xs

-- how often x is in the list
abbrev pub times : ℕ → List ℕ → ℕ
times x = total (λ y. one_if (y == x))
