-- What is at an index of a list.
use Rattle.std.proofs.Common.{◌≡◌, ℕ, zero, suc, ◌+◌, ◌<◌, ◌≤◌, Bool, false, Some, List, [], ◌∷◌, ◌++◌, length, ◌⊎◌, inl, inr, refl, sym, subst, arith}
use Rattle.std.specs.Prelude.{slice_get}
use Rattle.lin_history.specs.Problems.Continuations.{has}
use Rattle.lin_search.specs.CallSetLemmas.{below_or_last}

pub get_early : {X : Type 0} (xs ys : List X) (k : ℕ) (x : X) → slice_get xs k ≡ Some x → slice_get (xs ++ ys) k ≡ Some x
get_early [] ys k x e = absurd (cc)
get_early (y ∷ xs) ys zero x e = e
get_early (y ∷ xs) ys (suc k) x e = get_early xs ys k x e

pub get_last : {X : Type 0} (xs : List X) (y : X) → slice_get (xs ++ y ∷ []) (length xs) ≡ Some y
get_last [] y = refl
get_last (x ∷ xs) y = get_last xs y

pub get_end : {X : Type 0} (xs : List X) (y : X) (k : ℕ) (x : X) → slice_get (xs ++ y ∷ []) k ≡ Some x → (slice_get xs k ≡ Some x) ⊎ (y ≡ x)
get_end [] y zero x e = inr (cc)
get_end [] y (suc k) x e = absurd (cc)
get_end (z ∷ xs) y zero x e = inl e
get_end (z ∷ xs) y (suc k) x e = get_end xs y k x e

pub get_within : {X : Type 0} (xs : List X) (k : ℕ) (x : X) → slice_get xs k ≡ Some x → k < length xs
get_within [] k x e = absurd (cc)
get_within (y ∷ xs) zero x e = omega arith
get_within (y ∷ xs) (suc k) x e = let h = get_within xs k x e in omega (arith, h)

pub get_before : {X : Type 0} (xs ys : List X) (k : ℕ) (x : X) → k < length xs → slice_get (xs ++ ys) k ≡ Some x → slice_get xs k ≡ Some x
get_before [] ys k x h e = absurd (omega (arith, h))
get_before (y ∷ xs) ys zero x h e = e
get_before (y ∷ xs) ys (suc k) x h e = get_before xs ys k x (omega (arith, h)) e

pub has_past : (set : List Bool) (c : ℕ) → length set ≤ c → has set c ≡ false
has_past [] c h = refl
has_past (b ∷ set) zero h = absurd (omega (arith, h))
has_past (b ∷ set) (suc c) h = has_past set c (omega (arith, h))

-- what holds of what is before an index, and of what is at it
pub each_more : {X : Type 0} (P : X → Type 0) (xs : List X) (i : ℕ) (y : X) → slice_get xs i ≡ Some y → ((k : ℕ) (x : X) → k < i → slice_get xs k ≡ Some x → P x) → P y → (k : ℕ) (x : X) → k < i + 1 → slice_get xs k ≡ Some x → P x
each_more P xs i y at before here k x h e = elim (below_or_last k i h) [
  | inl early ↦ before k x early e
  | inr same ↦ (let f : slice_get xs i ≡ Some x = subst (λ (j : ℕ). slice_get xs j ≡ Some x) same e in let q : y ≡ x = cc in subst P q here)
]

pub below_more : (P : ℕ → Type 0) (i : ℕ) → ((c : ℕ) → c < i → P c) → P i → (c : ℕ) → c < i + 1 → P c
below_more P i before here c h = elim (below_or_last c i h) [ inl early ↦ before c early | inr same ↦ subst P (sym same) here ]
