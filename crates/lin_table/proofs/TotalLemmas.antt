-- Sums over the views of all hands.
use Rattle.std.proofs.Common.{◌≡◌, ◌≢◌, ℕ, zero, suc, ◌+◌, ◌≤◌, List, [], ◌∷◌, ◌++◌, set, refl, sym, ap, arith, cond, eq-eqb, ne_eqb}
use mathlib.Core.Option.{some, some-ne-none, some-injective}
use lib.ListN.{get_elem?}
use Rattle.std.proofs.lemmas.Bool.Decides.{nat_tests}
use Rattle.lin_table.specs.Totals.{total, once_below, one_if_same}

module _ {X : Type 0} where
  pub total_set : (f : X → ℕ) (l : List X) (i : ℕ) (v w : X) → get_elem? l i ≡ some v → total f (set l i w) + f v ≡ total f l + f w
  total_set f [] i v w e = absurd (some-ne-none v (sym e))
  total_set f (x ∷ xs) zero v w e = let is : f x ≡ f v = ap f (some-injective x v e) in omega arith
  total_set f (x ∷ xs) (suc i) v w e = let r = total_set f xs i v w e in omega arith

  pub total_append : (f : X → ℕ) (xs ys : List X) → total f (xs ++ ys) ≡ total f xs + total f ys
  total_append f [] ys = omega arith
  total_append f (x ∷ xs) ys = let r = total_append f xs ys in omega arith

  -- one of them is at most the sum
  pub total_at : (f : X → ℕ) (l : List X) (i : ℕ) (v : X) → get_elem? l i ≡ some v → f v ≤ total f l
  total_at f [] i v e = absurd (some-ne-none v (sym e))
  total_at f (x ∷ xs) zero v e = let is : f x ≡ f v = ap f (some-injective x v e) in omega arith
  total_at f (x ∷ xs) (suc i) v e = let r = total_at f xs i v e in omega arith

  pub total_none : (f g : X → ℕ) (l : List X) → total f l ≡ 0 → ((j : ℕ) (u : X) → get_elem? l j ≡ some u → f u ≡ 0 → g u ≡ 0) → total g l ≡ 0
  total_none f g [] s none = refl
  total_none f g (x ∷ xs) s none =
      let head = none 0 x refl (omega arith) in
      let r = total_none f g xs (omega arith) (λ j u. none (suc j) u) in omega arith

  -- where f adds up to what one of them has, and g is 0 with f, g adds up to what that one has
  pub total_alone : (f g : X → ℕ) (l : List X) (i : ℕ) (v : X) → get_elem? l i ≡ some v → total f l ≡ f v → ((j : ℕ) (u : X) → get_elem? l j ≡ some u → f u ≡ 0 → g u ≡ 0) → total g l ≡ g v
  total_alone f g [] i v e s none = absurd (some-ne-none v (sym e))
  total_alone f g (x ∷ xs) zero v e s none =
      let is : f x ≡ f v = ap f (some-injective x v e) in
      let is' : g x ≡ g v = ap g (some-injective x v e) in
      let r = total_none f g xs (omega arith) (λ j u. none (suc j) u) in omega arith
  total_alone f g (x ∷ xs) (suc i) v e s none =
      let some_there = total_at f xs i v e in
      let head = none 0 x refl (omega arith) in
      let r = total_alone f g xs i v e (omega arith) (λ j u. none (suc j) u) in omega arith

pub one_where_same : (x : ℕ) → one_if_same x x ≡ 1
one_where_same x = ap (λ b. cond b 1 0) (eq-eqb x x refl)

pub none_where_other : (y x : ℕ) → y ≢ x → one_if_same y x ≡ 0
none_where_other y x ne = ap (λ b. cond b 1 0) (ne_eqb y x ne)

pub once_more : (p m : ℕ) → once_below p (m + 1) ≡ once_below p m + one_if_same m p
once_more p m = grind (arith, nat_tests)
