use Rattle.std.proofs.Common.{◌≡◌, ◌+◌, Some, false, rules, sym, subst, refl, to_z, of_z, w64}
use Rattle.std.specs.Prelude.{ℤ, drop, position}
use Rattle.std.specs.List.{list_any}
use Rattle.std.proofs.lemmas.Int.{to_z-of_z}
use Rattle.std.specs.Ordering.{int_eq}
use Rattle.lin_object.specs.declared.pairs.Pair.{Pair}
use Rattle.lin_object.proofs.EditLemmas.{without_only, place_found}
use Rattle.lin_object.proofs.pairs.Pairs.only_place_of.Goals as goal

pub returns-in-Some-clause-without : goal.returns-in-Some-clause-without
returns-in-Some-clause-without c =
    let pairs = c.as_slice-pairs.result.now in
    let same : to_z w64 (of_z w64 c.args.key) ≡ c.args.key = to_z-of_z w64 c.args.key c.ranges.key in
    let first : position (λ (pair : Pair). int_eq pair.key c.args.key) pairs ≡ Some c.in-Some.place = subst (λ (k : ℤ). position (λ (pair : Pair). int_eq pair.key k) pairs ≡ Some c.in-Some.place) same (sym c.in-Some.ensures.value) in
    let alone : list_any (λ (pair : Pair). int_eq pair.key c.args.key) (drop (c.in-Some.place + 1) pairs) ≡ false = subst (λ (k : ℤ). list_any (λ (pair : Pair). int_eq pair.key k) (drop (c.in-Some.place + 1) pairs) ≡ false) same (c.if-is_only_at.ensures refl) in
    let without = without_only (λ (pair : Pair). int_eq pair.key c.args.key) pairs c.in-Some.place (place_found (λ (pair : Pair). int_eq pair.key c.args.key) pairs c.in-Some.place first) c.in-Some.ensures.within alone in
    search rules
