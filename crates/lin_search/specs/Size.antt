-- How many continuations a configuration has (this project's own).
use Rattle.std.specs.Prelude.{◌≡◌, ℕ, ◌+◌, List, [], ◌∷◌, ◌⊎◌, length}

-- l is one of the lists.
abbrev pub IsOneOf : List ℕ → List (List ℕ) → Type 0
IsOneOf l [] = ⊥
IsOneOf l (m ∷ ms) = (l ≡ m) ⊎ IsOneOf l ms

-- No list is there twice.
abbrev pub AllDifferent : List (List ℕ) → Type 0
AllDifferent [] = Unit {0}
AllDifferent (l ∷ ls) = (IsOneOf l ls → ⊥) × AllDifferent ls

-- P holds of each of the lists.
abbrev pub EachOf : (List ℕ → Type 0) → List (List ℕ) → Type 0
EachOf P [] = Unit {0}
EachOf P (l ∷ ls) = P l × EachOf P ls

-- P holds of n different lists that are not empty, or of more.
pub record HasMany (P : List ℕ → Type 0) (n : ℕ) : Type 0 where
  pub lists : List (List ℕ)
  pub different : AllDifferent lists
  pub each : EachOf (λ (l : List ℕ). P l × (l ≡ [] → ⊥)) lists
  pub count : length lists ≡ n

-- P holds of more than n lists that are not empty.
abbrev pub HasMoreThan : (List ℕ → Type 0) → ℕ → Type 0
HasMoreThan P n = HasMany P (n + 1)
