use Rattle.std.proofs.Common.{rules, ◌≡◌, true, Some, length, refl, sym, ◌∙◌}
use Rattle.std.specs.Prelude.{slice_get}
use Rattle.std.specs.Ordering.{int_eq}
use Rattle.std.proofs.lemmas.Option.{slice_get_read}
use Rattle.indexmap.specs.IndexMap.{get}
use Rattle.lin_object.specs.declared.op.Op.TheVariants.{Push}
use Rattle.lin_ahead.proofs.stacks.PopperLemmas.{once_of, popped_as, popper_is}
use Rattle.lin_ahead.proofs.stacks.rows.popper_of.Goals as goal

pub returns-then-popped : goal.returns-then-popped
returns-then-popped c =
    let there : slice_get c.args.calls.now c.args.push ≡ Some c.in_ok-get.field-0.now = slice_get_read c.args.calls.now (length c.args.calls.now) c.args.push c.in_ok-get.field-0.now refl c.in_ok-get.ensures.lookup.3.0 c.in_ok-get.ensures.lookup.1 in
    let here : slice_get c.args.calls.now c.in_ok-popper.field-0.now ≡ Some c.in_ok-get-2.field-0.now = slice_get_read c.args.calls.now (length c.args.calls.now) c.in_ok-popper.field-0.now c.in_ok-get-2.field-0.now refl c.in_ok-get-2.ensures.lookup.3.0 c.in_ok-get-2.ensures.lookup.1 in
    let op : c.in_ok-get.field-0.now.op ≡ Push c.in_ok-item.item = search rules in
    let yes : c.goes_in_once.result ≡ true = search rules in
    popper_is c.args.calls.now c.args.push c.in_ok-popper.field-0.now c.in_ok-get.field-0.now c.in_ok-get-2.field-0.now c.in_ok-item.item there op
    (once_of c.args.calls.now c.told_of.result (get int_eq c.args.items.now) _ c.in_ok-item.item c.told_of.ensures (search rules) c.requires (sym c.goes_in_once.ensures ∙ yes))
    here (popped_as c.in_ok-get-2.field-0.now _ c.in_ok-item.item (c.popped.ensures c.if-popped.true) (search rules))
