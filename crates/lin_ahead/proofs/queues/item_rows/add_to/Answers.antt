use Rattle.std.proofs.Common.{rules, ◌≡◌, ℕ, true, false, Some, refl, sym, ◌∙◌, subst, true≢false, arith}
use Rattle.std.specs.Prelude.{slice_get}
use Rattle.std.specs.Ordering.{int_eq}
use Rattle.std.specs.Cmp.{signed_Decides}
use Rattle.std.proofs.lemmas.Option.{slice_get_within, slice_get_read}
use Rattle.indexmap.specs.IndexMap.{get}
use Rattle.lin_ahead.specs.declared.queues.item_rows.ItemRow.{ItemRow}
use Rattle.lin_ahead.proofs.queues.ItemRowLemmas.{one, unconcerned, not_at, written}
use Rattle.lin_ahead.proofs.queues.item_rows.add_to.Goals as goal

pub returns-then-place-len : goal.returns-then-place-len
returns-then-place-len c = unconcerned c.args.call (λ v. int_eq v c.args.item) c.args.rows.now.items (not_at c.args.rows.now.items (get int_eq c.args.places.now) c.args.item c.requires (λ i row at e same. (
    let w = slice_get_within c.args.rows.now.items i row e in
    let noted : get int_eq c.args.places.now c.args.item ≡ Some c.in-Some.place = search rules in
    let k = one i c.in-Some.place (sym at ∙ noted) in
    let out = c.if-place-len.true in
    let n = c.len.ensures in
    omega (arith, w, k, out, n)
    )))

pub returns-then-not-is_of : goal.returns-then-not-is_of
returns-then-not-is_of c = unconcerned c.args.call (λ v. int_eq v c.args.item) c.args.rows.now.items (not_at c.args.rows.now.items (get int_eq c.args.places.now) c.args.item c.requires (λ i row at e same. (
    let noted : get int_eq c.args.places.now c.args.item ≡ Some c.in-Some.place = search rules in
    let k : i ≡ c.in-Some.place = one i c.in-Some.place (sym at ∙ noted) in
    let there : slice_get c.args.rows.now.items c.in-Some.place ≡ Some c.index.result.now = slice_get_read c.args.rows.now.items _ c.in-Some.place c.index.result.now refl (let out = c.if-place-len.false in let n = c.len.ensures in omega (arith, out, n)) c.index.ensures in
    let is : row ≡ c.index.result.now = one row c.index.result.now (sym e ∙ subst (λ (m : ℕ). slice_get c.args.rows.now.items m ≡ Some c.index.result.now) (sym k) there) in
    let so : int_eq c.index.result.now.item c.args.item ≡ true = (signed_Decides c.index.result.now.item c.args.item).1 (subst (λ (r : ItemRow). r.item ≡ c.args.item) is same) in
    let not : int_eq c.index.result.now.item c.args.item ≡ false = search rules in
    true≢false (sym so ∙ not)
    )))

pub returns : goal.returns
returns c =
    let noted : get int_eq c.args.places.now c.args.item ≡ Some c.in-Some.place = search rules in
    let yes : int_eq c.index.result.now.item c.args.item ≡ true = search rules in
    let shown : slice_get c.args.rows.now.items c.in-Some.place ≡ Some c.index.result.now = slice_get_read c.args.rows.now.items _ c.in-Some.place c.index.result.now refl (let out = c.if-place-len.false in let n = c.len.ensures in omega (arith, out, n)) c.index.ensures in
    let there : slice_get c.args.rows.now.items c.in-Some.place ≡ Some c.index_mut.result.now = slice_get_read c.args.rows.now.items _ c.in-Some.place c.index_mut.result.now refl (let out = c.if-place-len.false in let n = c.len.ensures in omega (arith, out, n)) c.index_mut.ensures.value in
    let is : c.index_mut.result.now.item ≡ c.args.item = subst (λ (r : ItemRow). r.item ≡ c.args.item) (one c.index.result.now c.index_mut.result.now (sym shown ∙ there)) ((signed_Decides c.index.result.now.item c.args.item).0 yes) in
    written c.args.call c.args.rows.now.items (get int_eq c.args.places.now) c.args.item c.in-Some.place c.index_mut.result.now c.push.new.self c.requires noted there is c.in_ok-push.ensures
