-- Lists of call numbers: what is in them, and their order.
use Rattle.std.specs.Prelude.{◌≡◌, ℕ, ◌<◌, ◌≤◌, Option, Some, None, List, [], ◌∷◌, length, ◌⊎◌}

-- The call is one of the list.
abbrev pub In : ℕ → List ℕ → Type 0
In c [] = ⊥
In c (d ∷ ds) = (c ≡ d) ⊎ In c ds

-- No call is in the list twice.
abbrev pub IsDistinct : List ℕ → Type 0
IsDistinct [] = Unit {0}
IsDistinct (c ∷ cs) = (In c cs → ⊥) × IsDistinct cs

-- The first list is not after the second in lexicographic order, a prefix first.
abbrev pub IsUpTo : List ℕ → List ℕ → Type 0
IsUpTo [] m = Unit {0}
IsUpTo (c ∷ l) [] = ⊥
IsUpTo (c ∷ l) (d ∷ m) = (c < d) ⊎ ((c ≡ d) × IsUpTo l m)

-- The least of the lists of which P holds.
abbrev pub IsLeast : (List ℕ → Type 0) → List ℕ → Type 0
IsLeast P l = P l × ((m : List ℕ) → P m → IsUpTo l m)

-- The first call of a list.
abbrev pub first_of : List ℕ → Option ℕ
first_of [] = None
first_of (c ∷ cs) = Some c

-- The greatest length of a list of which P holds is `more`, and `first` is the least first call of those of that length.
pub record IsLongest (P : List ℕ → Type 0) (more : ℕ) (first : Option ℕ) : Type 0 where
  pub there : (l : List ℕ) × P l × (length l ≡ more) × (first_of l ≡ first)
  pub greatest : (l : List ℕ) → P l → length l ≤ more
  pub least : (l : List ℕ) → P l → length l ≡ more → (c d : ℕ) → first ≡ Some c → first_of l ≡ Some d → c ≤ d
