-- Lists of pairs, by the test of their equality.
use Rattle.std.specs.Prelude.{◌≡◌, true, List, [], ◌∷◌, refl}
use Rattle.std.specs.Ordering.{int_eq}
use Rattle.std.specs.Cmp.{signed_Decides, IsEquivalence, and_equiv, on_equiv}
use Rattle.std.specs.Cmp.Lexicographic.{lists_equiv}
use Rattle.std.proofs.lemmas.Bool.{and_parts}
use Rattle.std.proofs.lemmas.Cmp.{int_eq_equiv}
use Rattle.lin_object.specs.declared.pairs.Pair.{Pair}
use Rattle.lin_object.specs.contracts.pairs.PairPartialEq.TheImpl.{eq-value as pair_eq}
use lib.Pointwise.{pointwise}

-- Pairs that are equal by the test are the same.
pub pair_same : (p q : Pair) → pair_eq.it p q ≡ true → p ≡ q
pair_same p q e =
    let both = and_parts (int_eq p.key q.key) (int_eq p.value q.value) e in
    let keys : p.key ≡ q.key = (signed_Decides p.key q.key).0 both.0 in
    let values : p.value ≡ q.value = (signed_Decides p.value q.value).0 both.1 in
    λ i. record { key = keys i; value = values i }

-- So are lists of them.
pub pairs_same : (ps qs : List Pair) → pointwise pair_eq.it ps qs ≡ true → ps ≡ qs
pairs_same [] [] e = refl
pairs_same (p ∷ ps) (q ∷ qs) e =
    let both = and_parts (pair_eq.it p q) (pointwise pair_eq.it ps qs) e in
    let same : p ≡ q = pair_same p q both.0 in
    let rest : ps ≡ qs = pairs_same ps qs both.1 in
    cc
pairs_same [] (q ∷ qs) e = absurd (cc)
pairs_same (p ∷ ps) [] e = absurd (cc)

-- A pair is equal to itself by the test.
pub pair_itself : (p : Pair) → pair_eq.it p p ≡ true
pair_itself p = rw (int_eq_equiv.refl p.key) (int_eq_equiv.refl p.value)

-- So is a list of them.
pub pairs_itself : (ps : List Pair) → pointwise pair_eq.it ps ps ≡ true
pairs_itself [] = refl
pairs_itself (p ∷ ps) = rw (pair_itself p) (pairs_itself ps)

-- The test of pairs is an equivalence, and so is that of their lists.
pair_equiv : IsEquivalence pair_eq.it
pair_equiv = and_equiv (on_equiv (λ (p : Pair). p.key) int_eq_equiv) (on_equiv (λ (p : Pair). p.value) int_eq_equiv)

pub pairs_equiv : IsEquivalence (pointwise pair_eq.it)
pairs_equiv = lists_equiv pair_equiv
