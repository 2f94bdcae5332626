use Rattle.std.proofs.Common.{arith}
use Rattle.std.specs.Prelude.{slice_get}
use Rattle.std.specs.Ordering.{int_eq}
use Rattle.indexmap.specs.IndexMap.{get}
use Rattle.lin_ahead.specs.Queues.Slots.{concerns_at}
use Rattle.lin_ahead.proofs.queues.ItemRowLemmas.{still_placed, none_so_far, calls_more_at, all_calls}
use Rattle.lin_ahead.proofs.queues.item_rows.add_calls.Goals as goal

pub loop-number-init : goal.loop-number-init
loop-number-init c = (c.requires.placed, none_so_far c.args.calls.now c.args.rows.now.items c.requires.empty)

pub loop-number-preserved : goal.loop-number-preserved
loop-number-preserved c = (
  still_placed c.loop-number.number (λ v. concerns_at v (slice_get c.args.calls.now c.loop-number.number)) c.loop-number.rows.items c.add_call.new.rows.items (get int_eq c.args.places.now) c.in_ok-add_call.ensures c.loop-number.invariant.0,
  calls_more_at c.args.calls.now c.loop-number.rows.items c.add_call.new.rows.items c.loop-number.number (let a = c.loop-number-test.true in let b = c.loop-number.auto.number-end in omega (arith, a, b)) c.in_ok-add_call.ensures c.loop-number.invariant.1,
)

pub returns : goal.returns
returns c = all_calls c.args.calls.now c.loop-number.rows.items c.loop-number.number (let a = c.loop-number-test.false in let b = c.loop-number.auto.number-end in omega (arith, a, b)) c.loop-number.invariant.1
