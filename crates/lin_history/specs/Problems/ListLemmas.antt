-- Small lemmas on lists of calls, which the crates above cite too.
use Rattle.std.proofs.Common.{◌≡◌, ℕ, zero, suc, false, List, [], ◌∷◌, ◌++◌, ◌⊎◌, inl, inr, refl, sym, ap, subst, replicate}
use Rattle.lin_history.specs.Problems.Lists.{In, IsDistinct}
use Rattle.lin_history.specs.Problems.Continuations.{has}

pub in_early : (c : ℕ) (xs ys : List ℕ) → In c xs → In c (xs ++ ys)
in_early c [] ys h = absurd h
in_early c (x ∷ xs) ys h = elim h [ inl e ↦ inl e | inr more ↦ inr (in_early c xs ys more) ]

pub in_late : (c : ℕ) (xs ys : List ℕ) → In c ys → In c (xs ++ ys)
in_late c [] ys h = h
in_late c (x ∷ xs) ys h = inr (in_late c xs ys h)

pub in_either : (c : ℕ) (xs ys : List ℕ) → In c (xs ++ ys) → In c xs ⊎ In c ys
in_either c [] ys h = inr h
in_either c (x ∷ xs) ys h = elim h [ inl e ↦ inl (inl e) | inr more ↦ elim (in_either c xs ys more) [ inl p ↦ inl (inr p) | inr p ↦ inr p ] ]

-- a call of a list is somewhere in it
pub in_place : (c : ℕ) (l : List ℕ) → In c l → (early : List ℕ) × (late : List ℕ) × (l ≡ early ++ c ∷ late)
in_place c [] h = absurd h
in_place c (d ∷ l) h = elim h [
  | inl e ↦ ([], l, ap (λ (y : ℕ). y ∷ l) (sym e))
  | inr more ↦ (let r = in_place c l more in (d ∷ r.0, r.1, ap (λ (k : List ℕ). d ∷ k) r.2))
]

pub distinct_early : (xs ys : List ℕ) → IsDistinct (xs ++ ys) → IsDistinct xs
distinct_early [] ys d = tt
distinct_early (x ∷ xs) ys d = ((λ h. d.0 (in_early x xs ys h)), distinct_early xs ys d.1)

pub distinct_late : (xs ys : List ℕ) → IsDistinct (xs ++ ys) → IsDistinct ys
distinct_late [] ys d = d
distinct_late (x ∷ xs) ys d = distinct_late xs ys d.1

-- a call of a list of distinct calls does not stand in both parts of it
pub apart : (c : ℕ) (xs ys : List ℕ) → IsDistinct (xs ++ ys) → In c xs → In c ys → ⊥
apart c [] ys d h k = h
apart c (x ∷ xs) ys d h k = elim h [ inl e ↦ d.0 (subst (λ (n : ℕ). In n (xs ++ ys)) e (in_late c xs ys k)) | inr more ↦ apart c xs ys d.1 more k ]

-- the set of no calls has none
pub has_none : (n c : ℕ) → has (replicate n false) c ≡ false
has_none zero c = refl
has_none (suc n) zero = refl
has_none (suc n) (suc c) = has_none n c
