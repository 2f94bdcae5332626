-- Lists of calls, as the loops read and build them.
use Rattle.std.proofs.Common.{◌≡◌, ℕ, zero, suc, ◌+◌, ◌<◌, ◌≤◌, List, [], ◌∷◌, ◌++◌, length, drop, get_or, None, ◌⊎◌, inl, inr, refl, arith}
use Rattle.std.specs.List.{slice_get}
use Rattle.std.proofs.lemmas.Bool.{cases_lt}
use Rattle.lin_history.specs.Problems.Lists.{In}
use Rattle.lin_history.specs.Problems.ListLemmas.{in_either}
use Rattle.lin_explain.specs.Explanation.{IsRising}

pub drop_at : {A : Type 0} (d : A) (l : List A) (i : ℕ) → i < length l → drop i l ≡ get_or l i d ∷ drop (i + 1) l
drop_at d [] i h = absurd (omega (arith, h))
drop_at d (c ∷ l) zero h = refl
drop_at d (c ∷ l) (suc i) h = let e : suc i + 1 ≡ suc (i + 1) = omega arith in rw e (drop_at d l i (omega (arith, h)))

pub drop_none : {A : Type 0} (l : List A) (i : ℕ) → length l ≤ i → drop i l ≡ []
drop_none [] zero h = refl
drop_none [] (suc i) h = refl
drop_none (c ∷ l) zero h = absurd (omega (arith, h))
drop_none (c ∷ l) (suc i) h = drop_none l i (omega (arith, h))

pub in_at : (l : List ℕ) (i : ℕ) → i < length l → In (get_or l i 0) l
in_at [] i h = absurd (omega (arith, h))
in_at (c ∷ l) zero h = inl refl
in_at (c ∷ l) (suc i) h = inr (in_at l i (omega (arith, h)))

pub rising_more : (l : List ℕ) (c : ℕ) → IsRising l → ((d : ℕ) → In d l → d < c) → IsRising (l ++ c ∷ [])
rising_more [] c r below = ((λ d h. absurd h), tt)
rising_more (x ∷ xs) c r below = (
  (λ d h. elim (in_either d xs (c ∷ []) h) [ inl a ↦ r.0 d a | inr (inl e) ↦ (let less = below x (inl refl) in omega (arith, e, less)) | inr (inr none) ↦ absurd none ]),
  rising_more xs c r.1 (λ d h. below d (inr h)),
)

pub last_or : (c n : ℕ) → c < n + 1 → (c < n) ⊎ (c ≡ n)
last_or c n h = elim (cases_lt c n) [ inl x ↦ inl x | inr x ↦ inr (omega (arith, x, h)) ]

pub no_first : {A : Type 0} (l : List A) → slice_get l 0 ≡ None → l ≡ []
no_first [] e = refl
no_first (x ∷ xs) e = absurd (cc)
