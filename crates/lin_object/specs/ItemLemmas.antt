-- Lists of items, by the test of their equality.
use Rattle.std.specs.Prelude.{◌≡◌, ℤ, true, List, [], ◌∷◌, refl}
use Rattle.std.specs.Ordering.{int_eq}
use Rattle.std.specs.Cmp.{signed_Decides}
use Rattle.std.proofs.lemmas.Bool.{and_parts}
use Rattle.std.proofs.lemmas.Cmp.{int_eq_equiv}
use lib.Pointwise.{pointwise}

-- Items that are equal by the test are the same.
pub items_same : (xs ys : List ℤ) → pointwise int_eq xs ys ≡ true → xs ≡ ys
items_same [] [] e = refl
items_same (x ∷ xs) (y ∷ ys) e =
    let both = and_parts (int_eq x y) (pointwise int_eq xs ys) e in
    let same : x ≡ y = (signed_Decides x y).0 both.0 in
    let rest : xs ≡ ys = items_same xs ys both.1 in
    cc
items_same [] (y ∷ ys) e = absurd (cc)
items_same (x ∷ xs) [] e = absurd (cc)

-- Items are equal to themselves by the test.
pub items_itself : (xs : List ℤ) → pointwise int_eq xs xs ≡ true
items_itself [] = refl
items_itself (x ∷ xs) = rw (int_eq_equiv.refl x) (items_itself xs)
