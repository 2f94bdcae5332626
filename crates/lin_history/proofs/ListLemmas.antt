-- Lists after a push, after a write at an index, and through a function.
use Rattle.std.proofs.Common.{◌≡◌, ◌≢◌, ℕ, zero, suc, ◌+◌, ◌≤◌, Bool, true, false, cond, Some, None, List, [], ◌∷◌, ◌++◌, map, find, filter, take, drop, set, length, slice_get, refl, sym, ap, ◌∙◌, arith, ◌⊎◌, inl, inr}
use Rattle.std.proofs.lemmas.List.{length-set, take_all}

module _ {A : Type 0} where
  -- the rest of a list from an index on, where the element there is known
  pub drop_at : (xs : List A) (i : ℕ) (x : A) → slice_get xs i ≡ Some x → drop i xs ≡ x ∷ drop (suc i) xs
  drop_at [] i x e = absurd (cc)
  drop_at (y ∷ xs) zero x e = let same : y ≡ x = cc in ap (λ (z : A). z ∷ xs) same
  drop_at (y ∷ xs) (suc i) x e = drop_at xs i x e

  -- an element of a list with one more at its end
  pub slice_get-push : (xs : List A) (y : A) (i : ℕ) (z : A) → slice_get (xs ++ y ∷ []) i ≡ Some z → (slice_get xs i ≡ Some z) ⊎ ((i ≡ length xs) × (y ≡ z))
  slice_get-push [] y zero z h = inr (refl, cc)
  slice_get-push [] y (suc i) z h = absurd (cc)
  slice_get-push (x ∷ xs) y zero z h = inl h
  slice_get-push (x ∷ xs) y (suc i) z h =
      elim (slice_get-push xs y i z h) [ inl k ↦ inl k | inr k ↦ inr (ap suc k.0, k.1) ]

  -- an element of a list that is written at an index
  pub slice_get-set : (xs : List A) (i : ℕ) (y : A) (j : ℕ) (z : A) → slice_get (set xs i y) j ≡ Some z → ((j ≡ i) × (y ≡ z)) ⊎ ((j ≢ i) × (slice_get xs j ≡ Some z))
  slice_get-set [] i y j z h = absurd (cc)
  slice_get-set (x ∷ xs) zero y zero z h = inl (refl, cc)
  slice_get-set (x ∷ xs) zero y (suc j) z h = inr (λ e. absurd (omega (arith, e)), h)
  slice_get-set (x ∷ xs) (suc i) y zero z h = inr (λ e. absurd (omega (arith, e)), h)
  slice_get-set (x ∷ xs) (suc i) y (suc j) z h =
      elim (slice_get-set xs i y j z h) [ inl k ↦ inl (ap suc k.0, k.1) | inr k ↦ inr (λ e. k.0 (omega (arith, e)), k.1) ]

  -- an element of a list that is seen through a function
  pub slice_get-mapped : {B : Type 0} (f : A → B) (xs : List A) (i : ℕ) (y : B) → slice_get (map f xs) i ≡ Some y → (x : A) × (slice_get xs i ≡ Some x) × (f x ≡ y)
  slice_get-mapped f [] i y h = absurd (cc)
  slice_get-mapped f (x ∷ xs) zero y h = (x, refl, cc)
  slice_get-mapped f (x ∷ xs) (suc i) y h = slice_get-mapped f xs i y h

  -- a function that leaves each element as it is
  map-same : (f : A → A) (xs : List A) → ((j : ℕ) (y : A) → slice_get xs j ≡ Some y → f y ≡ y) → map f xs ≡ xs
  map-same f [] same = refl
  map-same f (x ∷ xs) same = let a = same 0 x refl in let b = map-same f xs (λ j y h. same (suc j) y h) in cc

  -- a function that leaves each element but one as it is
  pub map-set_one : (f : A → A) (xs : List A) (i : ℕ) (x : A) → slice_get xs i ≡ Some x → ((j : ℕ) (y : A) → slice_get xs j ≡ Some y → j ≢ i → f y ≡ y) → map f xs ≡ set xs i (f x)
  map-set_one f [] i x h same = absurd (cc)
  map-set_one f (y ∷ xs) zero x h same =
      let rest = map-same f xs (λ j z k. same (suc j) z k (λ e. absurd (omega (arith, e)))) in
      let here : y ≡ x = cc in
      ap (λ l. f y ∷ l) rest ∙ ap (λ z. f z ∷ xs) here
  map-set_one f (y ∷ xs) (suc i) x h same =
      let here = same 0 y refl (λ e. absurd (omega (arith, e))) in
      let rest = map-set_one f xs i x h (λ j z k other. same (suc j) z k (λ e. other (omega (arith, e)))) in
      ap (λ l. f y ∷ l) rest ∙ ap (λ z. z ∷ set xs i (f x)) here

  -- what is found where one element alone passes
  pub find-one : (p : A → Bool) (xs : List A) (i : ℕ) (x : A) → slice_get xs i ≡ Some x → p x ≡ true → ((j : ℕ) (y : A) → slice_get xs j ≡ Some y → p y ≡ true → j ≡ i) → find p xs ≡ Some x
  find-one p [] i x h pass one = absurd (cc)
  find-one p (y ∷ xs) zero x h pass one =
      let here : y ≡ x = cc in rw (here, pass) refl
  find-one p (y ∷ xs) (suc i) x h pass one =
      first (p y) refl (find-one p xs i x h pass (λ j z k e. omega (arith, one (suc j) z k e)))
    where
      first : (b : Bool) → p y ≡ b → find p xs ≡ Some x → cond b (Some y) (find p xs) ≡ Some x
      first true e rest = absurd (let no = one 0 y refl e in omega (arith, no))
      first false e rest = rest

  -- what is found where none passes
  pub find-none : (p : A → Bool) (xs : List A) → ((j : ℕ) (y : A) → slice_get xs j ≡ Some y → p y ≡ false) → find p xs ≡ None
  find-none p [] none = refl
  find-none p (y ∷ xs) none = let here = none 0 y refl in rw here (find-none p xs (λ j z k. none (suc j) z k))

  -- how many pass, with one more at the end
  pub length_filter-push : (p : A → Bool) (xs : List A) (y : A) → length (filter p (xs ++ y ∷ [])) ≡ length (filter p xs) + cond (p y) 1 0
  length_filter-push p [] y = elim (p y) as (λ b. length (cond b (y ∷ []) []) ≡ 0 + cond b 1 0) [ true ↦ refl | false ↦ refl ]
  length_filter-push p (x ∷ xs) y =
      let rest = length_filter-push p xs y in
      elim (p x) as (λ b. length (cond b (x ∷ filter p (xs ++ y ∷ [])) (filter p (xs ++ y ∷ []))) ≡ length (cond b (x ∷ filter p xs) (filter p xs)) + cond (p y) 1 0) [ true ↦ omega (arith, rest) | false ↦ rest ]

  -- how many pass, where one that passed passes no more
  pub length_filter-less : (p : A → Bool) (xs : List A) (i : ℕ) (x y : A) → slice_get xs i ≡ Some x → p x ≡ true → p y ≡ false → length (filter p (set xs i y)) + 1 ≡ length (filter p xs)
  length_filter-less p [] i x y h was now = absurd (cc)
  length_filter-less p (z ∷ xs) zero x y h was now = let here : z ≡ x = cc in rw (here, was, now) (omega arith)
  length_filter-less p (z ∷ xs) (suc i) x y h was now =
      let rest = length_filter-less p xs i x y h was now in
      elim (p z) as (λ b. length (cond b (z ∷ filter p (set xs i y)) (filter p (set xs i y))) + 1 ≡ length (cond b (z ∷ filter p xs) (filter p xs))) [ true ↦ omega (arith, rest) | false ↦ rest ]

  -- how many pass through a function, in front of a place, after a write that does not change whether its element passes
  pub length_filter-set : {B : Type 0} (p : B → Bool) (f : A → B) (n : ℕ) (xs : List A) (i : ℕ) (x y : A) → slice_get xs i ≡ Some x → p (f y) ≡ p (f x)
      → length (filter p (map f (take n (set xs i y)))) ≡ length (filter p (map f (take n xs)))
  length_filter-set p f n [] i x y h same = refl
  length_filter-set p f zero (z ∷ xs) i x y h same = refl
  length_filter-set p f (suc n) (z ∷ xs) zero x y h same =
      let here : z ≡ x = cc in
      rw (here, same) (elim (p (f x)) as (λ b. length (cond b (f y ∷ filter p (map f (take n xs))) (filter p (map f (take n xs)))) ≡ length (cond b (f x ∷ filter p (map f (take n xs))) (filter p (map f (take n xs))))) [ true ↦ refl | false ↦ refl ])
  length_filter-set p f (suc n) (z ∷ xs) (suc i) x y h same =
      let rest = length_filter-set p f n xs i x y h same in
      elim (p (f z)) as (λ b. length (cond b (f z ∷ filter p (map f (take n (set xs i y)))) (filter p (map f (take n (set xs i y))))) ≡ length (cond b (f z ∷ filter p (map f (take n xs))) (filter p (map f (take n xs))))) [ true ↦ ap suc rest | false ↦ rest ]

  -- the same for the whole list
  pub length_filter-set_all : {B : Type 0} (p : B → Bool) (f : A → B) (xs : List A) (i : ℕ) (x y : A) → slice_get xs i ≡ Some x → p (f y) ≡ p (f x)
      → length (filter p (map f (set xs i y))) ≡ length (filter p (map f xs))
  length_filter-set_all {B = B} p f xs i x y h same =
      let g : List A → ℕ = λ l. length (filter p (map f l)) in
      let len = length-set xs i y in
      sym (ap g (take_all (length xs) (set xs i y) (omega (arith, len)))) ∙ length_filter-set p f (length xs) xs i x y h same ∙ ap g (take_all (length xs) xs (omega arith))

  -- none passes
  pub length_filter-none : (p : A → Bool) (xs : List A) → ((j : ℕ) (y : A) → slice_get xs j ≡ Some y → p y ≡ false) → length (filter p xs) ≡ 0
  length_filter-none p [] none = refl
  length_filter-none p (y ∷ xs) none = let here = none 0 y refl in rw here (length_filter-none p xs (λ j z k. none (suc j) z k))

  -- how many pass, after a write that does not change whether its element passes
  pub length_filter-same : (p : A → Bool) (xs : List A) (i : ℕ) (x y : A) → slice_get xs i ≡ Some x → p y ≡ p x → length (filter p (set xs i y)) ≡ length (filter p xs)
  length_filter-same p [] i x y h same = refl
  length_filter-same p (z ∷ xs) zero x y h same =
      let here : z ≡ x = cc in
      rw (here, same) (elim (p x) as (λ b. length (cond b (y ∷ filter p xs) (filter p xs)) ≡ length (cond b (x ∷ filter p xs) (filter p xs))) [ true ↦ refl | false ↦ refl ])
  length_filter-same p (z ∷ xs) (suc i) x y h same =
      let rest = length_filter-same p xs i x y h same in
      elim (p z) as (λ b. length (cond b (z ∷ filter p (set xs i y)) (filter p (set xs i y))) ≡ length (cond b (z ∷ filter p xs) (filter p xs))) [ true ↦ ap suc rest | false ↦ rest ]

  -- no more pass two tests than one
  pub length_filter-twice : (p q : A → Bool) (xs : List A) → length (filter p (filter q xs)) ≤ length (filter p xs)
  length_filter-twice p q [] = omega arith
  length_filter-twice p q (x ∷ xs) = by_tests (q x) (p x) refl (length_filter-twice p q xs)
    where
      by_tests : (b d : Bool) → p x ≡ d → length (filter p (filter q xs)) ≤ length (filter p xs) → length (filter p (cond b (x ∷ filter q xs) (filter q xs))) ≤ length (cond d (x ∷ filter p xs) (filter p xs))
      by_tests true true e rest = rw e (omega (arith, rest))
      by_tests true false e rest = rw e rest
      by_tests false true e rest = omega (arith, rest)
      by_tests false false e rest = rest
