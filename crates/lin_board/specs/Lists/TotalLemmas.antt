-- Lemmas on sums over a list, and on how often a number is in one.
use Rattle.std.proofs.Common.{◌≡◌, ◌≢◌, ℕ, zero, suc, ◌+◌, ◌<◌, ◌≤◌, List, [], ◌∷◌, ◌++◌, length, set, map, refl, sym, ap, arith, eqb, eq-eqb, ne_eqb, ⊎_elim, All, Contains}
use Rattle.std.specs.List.{Any}
use mathlib.Core.Option.{some, some-ne-none, some-injective}
use lib.ListN.{get_elem?, get_or}
use Rattle.std.proofs.lemmas.Bool.{cases_lt, cases_eq}
use Rattle.lin_board.specs.Lists.Totals.{one_if, total, times}

module _ {X : Type 0} where
  pub total-append : (f : X → ℕ) (xs ys : List X) → total f (xs ++ ys) ≡ total f xs + total f ys
  total-append f [] ys = omega arith
  total-append f (x ∷ xs) ys = let r = total-append f xs ys in omega arith

  pub total-push : (f : X → ℕ) (xs : List X) (y : X) → total f (xs ++ y ∷ []) ≡ total f xs + f y
  total-push f xs y = omega (arith, total-append f xs (y ∷ []))

  pub total-map : {Y : Type 0} (f : X → ℕ) (g : Y → X) (ys : List Y) → total f (map g ys) ≡ total (λ y. f (g y)) ys
  total-map f g [] = refl
  total-map f g (y ∷ ys) = let r = total-map f g ys in omega arith

  -- one element in place of another: written without a difference
  pub total-set : (f : X → ℕ) (l : List X) (i : ℕ) (v w : X) → get_elem? l i ≡ some v → total f (set l i w) + f v ≡ total f l + f w
  total-set f [] i v w e = absurd (some-ne-none v (sym e))
  total-set f (x ∷ xs) zero v w e = let is : f x ≡ f v = ap f (some-injective x v e) in omega arith
  total-set f (x ∷ xs) (suc i) v w e = let r = total-set f xs i v w e in omega arith

  -- one of them is at most the sum
  pub at_most_total : (f : X → ℕ) (l : List X) (i : ℕ) (v : X) → get_elem? l i ≡ some v → f v ≤ total f l
  at_most_total f [] i v e = absurd (some-ne-none v (sym e))
  at_most_total f (x ∷ xs) zero v e = let is : f x ≡ f v = ap f (some-injective x v e) in omega arith
  at_most_total f (x ∷ xs) (suc i) v e = let r = at_most_total f xs i v e in omega arith

  -- where f is at most g of each, its sum is at most that of g
  pub total_le : (f g : X → ℕ) (l : List X) → ((i : ℕ) (v : X) → get_elem? l i ≡ some v → f v ≤ g v) → total f l ≤ total g l
  total_le f g [] each = omega arith
  total_le f g (x ∷ xs) each = let a = each 0 x refl in let r = total_le f g xs (λ i v. each (suc i) v) in omega arith

  -- where g is positive with f, so is its sum
  pub total_positive : (f g : X → ℕ) (l : List X) → ((i : ℕ) (v : X) → get_elem? l i ≡ some v → 0 < f v → 0 < g v) → 0 < total f l → 0 < total g l
  total_positive f g [] each h = absurd (omega arith)
  total_positive f g (x ∷ xs) each h =
      ⊎_elim
      (λ (p : 0 < f x). let a = each 0 x refl p in omega arith)
      (λ (z : f x ≤ 0). let r = total_positive f g xs (λ i v. each (suc i) v) (omega arith) in omega arith)
      (cases_lt 0 (f x))

  -- where f adds up to 0, and g is 0 with f, g adds up to 0
  pub total_zero : (f g : X → ℕ) (l : List X) → total f l ≡ 0 → ((j : ℕ) (u : X) → get_elem? l j ≡ some u → f u ≡ 0 → g u ≡ 0) → total g l ≡ 0
  total_zero f g [] s none = refl
  total_zero f g (x ∷ xs) s none =
      let head = none 0 x refl (omega arith) in
      let r = total_zero f g xs (omega arith) (λ j u. none (suc j) u) in omega arith

  -- where f adds up to what one of them has, and g is 0 with f, g adds up to what that one has
  pub total_alone : (f g : X → ℕ) (l : List X) (i : ℕ) (v : X) → get_elem? l i ≡ some v → total f l ≡ f v → ((j : ℕ) (u : X) → get_elem? l j ≡ some u → f u ≡ 0 → g u ≡ 0) → total g l ≡ g v
  total_alone f g [] i v e s none = absurd (some-ne-none v (sym e))
  total_alone f g (x ∷ xs) zero v e s none =
      let is : f x ≡ f v = ap f (some-injective x v e) in
      let is' : g x ≡ g v = ap g (some-injective x v e) in
      let r = total_zero f g xs (omega arith) (λ j u. none (suc j) u) in omega arith
  total_alone f g (x ∷ xs) (suc i) v e s none =
      let some_there = at_most_total f xs i v e in
      let head = none 0 x refl (omega arith) in
      let r = total_alone f g xs i v e (omega arith) (λ j u. none (suc j) u) in omega arith

  -- one of them, by its index, is at most the sum
  pub at_index_most_total : (f : X → ℕ) (l : List X) (k : ℕ) (d : X) → k < length l → f (get_or l k d) ≤ total f l
  at_index_most_total f [] k d h = absurd (omega arith)
  at_index_most_total f (x ∷ xs) zero d h = omega arith
  at_index_most_total f (x ∷ xs) (suc k) d h = let r = at_index_most_total f xs k d (omega arith) in omega arith

  -- where the sum is positive, f is positive of some element
  pub Any-from_total : (f : X → ℕ) (l : List X) → 0 < total f l → Any (λ x. 0 < f x) l
  Any-from_total f [] h = absurd (omega arith)
  Any-from_total f (x ∷ xs) h =
      ⊎_elim
      (λ (p : 0 < f x). (0, x, omega arith, refl, p))
      (λ (z : f x ≤ 0). let r = Any-from_total f xs (omega arith) in let k = r.0 in let b = r.2 in (suc k, r.1, omega arith, r.3, r.4))
      (cases_lt 0 (f x))

  -- where f is positive of some element, the sum is positive
  pub total-from_Any : (f : X → ℕ) (l : List X) → Any (λ x. 0 < f x) l → 0 < total f l
  total-from_Any f l some_there =
      let x = some_there.1 in
      let m = at_index_most_total f l some_there.0 x some_there.2 in
      let e = ap f some_there.3 in
      let p = some_there.4 in omega arith

  -- where the sum is 0, f is 0 of each element
  pub All-from_total : (f : X → ℕ) (l : List X) → total f l ≡ 0 → All (λ x. f x ≡ 0) l
  All-from_total f l s k d h = let m = at_index_most_total f l k d h in omega arith

pub one_if-same : (x : ℕ) → one_if (eqb x x) ≡ 1
one_if-same x = ap one_if (eq-eqb x x refl)

pub one_if-other : (y x : ℕ) → y ≢ x → one_if (eqb y x) ≡ 0
one_if-other y x ne = ap one_if (ne_eqb y x ne)

pub times-append : (x : ℕ) (xs ys : List ℕ) → times x (xs ++ ys) ≡ times x xs + times x ys
times-append x xs ys = total-append (λ (z : ℕ). one_if (eqb z x)) xs ys

pub times-push : (x y : ℕ) (xs : List ℕ) → times x (xs ++ y ∷ []) ≡ times x xs + one_if (eqb y x)
times-push x y xs = total-push (λ (z : ℕ). one_if (eqb z x)) xs y

-- a list that has no number is empty
pub nil_from_times : (xs : List ℕ) → ((x : ℕ) → times x xs ≡ 0) → xs ≡ []
nil_from_times [] none = refl
nil_from_times (x ∷ xs) none = let s = one_if-same x in let n = none x in absurd (omega arith)

-- a number that is in the list at all is an element of it
pub Contains-from_times : (x : ℕ) (xs : List ℕ) → 0 < times x xs → Contains xs x
Contains-from_times x [] h = absurd (omega arith)
Contains-from_times x (y ∷ ys) h =
    ⊎_elim
    (λ (e : y ≡ x). (0, omega arith, e))
    (λ (ne : y ≢ x). let z = one_if-other y x ne in let r = Contains-from_times x ys (omega arith) in let b = r.1 in (suc r.0, omega arith, r.2))
    (cases_eq y x)

-- an element of the list is in it
pub times-from_Contains : (x : ℕ) (xs : List ℕ) → Contains xs x → 0 < times x xs
times-from_Contains x xs c =
    let m = at_index_most_total (λ (z : ℕ). one_if (eqb z x)) xs c.0 x c.1 in
    let e = ap (λ (z : ℕ). one_if (eqb z x)) c.2 in
    let s = one_if-same x in omega arith

-- what holds of each number that is in the list holds of each element
pub All-from_times : (P : ℕ → Type 0) (xs : List ℕ) → ((x : ℕ) → 0 < times x xs → P x) → All P xs
All-from_times P xs each k d h =
    let x : ℕ = get_or xs k d in
    let m = at_index_most_total (λ (z : ℕ). one_if (eqb z x)) xs k d h in
    let s = one_if-same x in each x (omega arith)
