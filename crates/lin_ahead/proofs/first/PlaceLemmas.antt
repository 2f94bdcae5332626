-- Places in lists of calls and of items.
use Rattle.std.proofs.Common.{◌≡◌, ℕ, suc, ◌+◌, List, [], ◌∷◌, ◌++◌, length, inl, inr, refl, sym, ◌∙◌, ap, subst, arith}
use Rattle.std.proofs.lemmas.List.{length-append, append_cancel_right}
use Rattle.std.specs.Prelude.{ℤ}
use Rattle.lin_history.specs.Problems.Lists.{In, IsDistinct}
use Rattle.lin_history.specs.Problems.ListLemmas.{in_late}

-- a call at a place of a list of distinct calls does not stand in front of it
pub not_in_front : (xs : List ℕ) (c : ℕ) (ys : List ℕ) → IsDistinct (xs ++ c ∷ ys) → In c xs → ⊥
not_in_front [] c ys d h = h
not_in_front (x ∷ xs) c ys d h = elim h [
  | inl e ↦ d.0 (subst (λ (n : ℕ). In n (xs ++ c ∷ ys)) e (in_late c xs (c ∷ ys) (inl refl)))
  | inr more ↦ not_in_front xs c ys d.1 more
]

-- items are not these with others before them
pub not_within : (xs : List ℤ) (w : ℤ) (ys zs : List ℤ) → zs ≡ xs ++ w ∷ (ys ++ zs) → ⊥
not_within xs w ys zs e =
    let a : length zs ≡ length xs + suc (length (ys ++ zs)) = ap length e ∙ length-append xs (w ∷ (ys ++ zs)) in
    let b : length (ys ++ zs) ≡ length ys + length zs = length-append ys zs in
    absurd (omega (arith, a, b))

pub not_empty : (xs : List ℤ) (w : ℤ) (ys : List ℤ) → xs ++ w ∷ ys ≡ [] → ⊥
not_empty [] w ys e = absurd (cc)
not_empty (x ∷ xs) w ys e = absurd (cc)

-- what was put on or taken off above the same items
pub put_on : (below mid above : List ℤ) (v : ℤ) → mid ++ below ≡ v ∷ (above ++ below) → mid ≡ v ∷ above
put_on below mid above v e = append_cancel_right mid (v ∷ above) below e

pub taken_off : (below mid above : List ℤ) (v : ℤ) (rest : List ℤ) → above ++ below ≡ v ∷ rest → mid ++ below ≡ rest → above ≡ v ∷ mid
taken_off below mid above v rest e f = append_cancel_right above (v ∷ mid) below (e ∙ ap (λ (l : List ℤ). v ∷ l) (sym f))

pub distinct_late : (xs ys : List ℕ) → IsDistinct (xs ++ ys) → IsDistinct ys
distinct_late [] ys d = d
distinct_late (x ∷ xs) ys d = distinct_late xs ys d.1
