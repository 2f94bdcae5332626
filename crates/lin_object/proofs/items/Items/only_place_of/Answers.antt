use Rattle.std.proofs.Common.{◌≡◌, ◌+◌, Some, false, rules, sym, subst, refl, to_z, of_z, w64}
use Rattle.std.specs.Prelude.{ℤ, drop, position}
use Rattle.std.proofs.lemmas.Int.{to_z-of_z}
use Rattle.std.specs.Ordering.{int_eq}
use Rattle.lin_object.specs.Items.{is_in}
use Rattle.lin_object.proofs.EditLemmas.{without_only, place_found}
use Rattle.lin_object.proofs.items.Items.only_place_of.Goals as goal

pub returns-in-Some-clause-without : goal.returns-in-Some-clause-without
returns-in-Some-clause-without c =
    let items = c.as_slice-items.result.now in
    let same : to_z w64 (of_z w64 c.args.item) ≡ c.args.item = to_z-of_z w64 c.args.item c.ranges.item in
    let first : position (λ (x : ℤ). int_eq x c.args.item) items ≡ Some c.in-Some.place = subst (λ (i : ℤ). position (λ (x : ℤ). int_eq x i) items ≡ Some c.in-Some.place) same (sym c.in-Some.ensures.value) in
    let alone : is_in c.args.item (drop (c.in-Some.place + 1) items) ≡ false = subst (λ (i : ℤ). is_in i (drop (c.in-Some.place + 1) items) ≡ false) same (c.if-is_only_at.ensures refl) in
    let without = without_only (λ (x : ℤ). int_eq x c.args.item) items c.in-Some.place (place_found (λ (x : ℤ). int_eq x c.args.item) items c.in-Some.place first) c.in-Some.ensures.within alone in
    search rules
