-- Whole numbers: their order, and the test of their equality.
use Rattle.std.proofs.Common.{◌≡◌, Bool, true, false, refl, sym, ◌∙◌}
use Rattle.std.specs.Prelude.{ℤ, int_lt}
use Rattle.std.specs.Ordering.{int_eq, int_cmp}
use Rattle.std.specs.Cmp.{signed_Decides}
use Rattle.std.specs.declared.cmp.Ordering.TheVariants.{Less, Greater}
use Rattle.std.proofs.lemmas.Cmp.{int_cmp_total}
use Rattle.lin_object.proofs.BoolLemmas.{not_both}

-- what is below a number is not equal to it
pub apart_from_less : (x y : ℤ) → int_cmp x y ≡ Less → int_eq y x ≡ false
apart_from_less x y e = rw (int_cmp_total.antisymm y x, e) refl

-- neither of two numbers is below the other and above it
pub not_less_twice : (x y : ℤ) → int_cmp x y ≡ Less → int_cmp y x ≡ Less → ⊥
not_less_twice x y e f = let turned : int_cmp y x ≡ Greater = rw (int_cmp_total.antisymm y x, e) refl in let bad : Less ≡ Greater = sym f ∙ turned in cc

-- equality goes both ways
pub int_swap : (a b : ℤ) → int_eq a b ≡ int_eq b a
int_swap a b = go (int_eq a b) (int_eq b a) refl refl
  where
    go : (c d : Bool) → int_eq a b ≡ c → int_eq b a ≡ d → c ≡ d
    go true true e f = refl
    go false false e f = refl
    go true false e f = sym ((signed_Decides b a).1 (sym ((signed_Decides a b).0 e))) ∙ f
    go false true e f = sym e ∙ (signed_Decides a b).1 (sym ((signed_Decides b a).0 f))

-- one of two numbers that are not equal is below the other
pub below_or_above : (v x : ℤ) (above : Bool) → int_lt x v ≡ above → int_lt v x ≡ false → int_eq x v ≡ false → int_cmp x v ≡ Less
below_or_above v x true e f g = rw e refl
below_or_above v x false e f g = absurd (not_both (int_eq x v) (rw (e, f) refl) g)

-- below by the test is below by the order
pub less : (v x : ℤ) → int_lt v x ≡ true → int_cmp v x ≡ Less
less v x e = rw e refl
