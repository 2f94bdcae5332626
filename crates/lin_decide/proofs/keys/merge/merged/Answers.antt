use Rattle.std.proofs.Common.{rules, arith}
use Rattle.std.specs.Prelude.{slice_index}
use Rattle.lin_decide.proofs.keys.PlaceLemmas.{merge_start, merge_step, merge_end, place_read, taken_at}
use Rattle.lin_decide.proofs.keys.merge.merged.Goals as goal

pub loop-call-init : goal.loop-call-init
loop-call-init c = merge_start c.args.numbers.now c.args.orders.now c.requires _ _ (c.in_ok-places.ensures.items_if_clones_equal (search rules)) c.in_ok-merged.ensures.items

pub loop-call-preserved : goal.loop-call-preserved
loop-call-preserved c = merge_step c.args.numbers.now c.args.orders.now c.requires c.loop-call.places.items c.loop-call.call c.loop-call.merged.items c.take_up_to.new.merged.items c.in_ok-places-2.field-0 c.loop-call-test.true c.loop-call.invariant (taken_at _ _ _ _ c.loop-call.call c.loop-call.merged.items c.take_up_to.new.merged.items c.in_ok-places-2.field-0 c.order_of.ensures (place_read c.loop-call.places.items (slice_index c.args.numbers.now c.loop-call.call) c.index-place.result.now (let a = c.requires.within c.loop-call.call c.loop-call-test.true in let b = c.loop-call.invariant.count in omega (arith, a, b)) c.index-place.ensures) c.in_ok-places-2.ensures)

pub returns : goal.returns
returns c = merge_end c.args.numbers.now c.args.orders.now c.requires c.loop-call.places.items c.loop-call.call c.loop-call.merged.items c.loop-call-test.false c.loop-call.invariant
