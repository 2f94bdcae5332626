use Rattle.std.proofs.Common.{refl, arith}
use Rattle.std.proofs.lemmas.Option.{slice_get_read}
use Rattle.lin_ahead.proofs.queues.ItemRowLemmas.{next_after, all_after}
use Rattle.lin_ahead.proofs.queues.item_rows.add_to_all.Goals as goal

pub loop-place-preserved : goal.loop-place-preserved
loop-place-preserved c = next_after c.args.call c.args.rows.now.items c.loop-place.rows.items c.loop-place.place c.index_mut.result.now c.push.new.self c.loop-place.invariant (slice_get_read c.loop-place.rows.items _ c.loop-place.place c.index_mut.result.now refl (let n = c.loop-place.invariant.count in let a = c.loop-place-test.true in let b = c.len-place-end.ensures in omega (arith, n, a, b)) c.index_mut.ensures.value) c.in_ok-push.ensures

pub returns : goal.returns
returns c = all_after c.args.call c.args.rows.now.items c.loop-place.rows.items c.loop-place.place (let n = c.loop-place.invariant.count in let a = c.loop-place-test.false in let b = c.len-place-end.ensures in omega (arith, n, a, b)) c.loop-place.invariant
