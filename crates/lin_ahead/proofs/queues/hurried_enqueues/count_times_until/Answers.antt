use Rattle.std.proofs.Common.{◌≡◌, rules, arith, w64, to_z, of_z}
use Rattle.std.specs.Prelude.{pos}
use Rattle.std.proofs.Math.ListN.{get_or}
use Rattle.lin_ahead.proofs.queues.HurriedLemmas.{until_none, until_next}
use Rattle.lin_ahead.proofs.queues.hurried_enqueues.count_times_until.Goals as goal

pub returns-then-left-eq0 : goal.returns-then-left-eq0
returns-then-left-eq0 c =
    let none = until_none c.args.item c.args.other c.loop-lying.left c.loop-lying.lying-index c.args.items.now c.loop-lying-test.true c.if-left-eq0.true in
    let item : to_z w64 (of_z w64 c.args.item) ≡ c.args.item = search rules in
    let other : to_z w64 (of_z w64 c.args.other) ≡ c.args.other = search rules in
    let so_far = rw (item, other) at (c.loop-lying.invariant.all) in
    omega (arith, none, so_far)

pub loop-lying-preserved : goal.loop-lying-preserved
loop-lying-preserved c =
    let item : to_z w64 (of_z w64 c.args.item) ≡ c.args.item = search rules in
    let other : to_z w64 (of_z w64 c.args.other) ≡ c.args.other = search rules in
    let lying : to_z w64 (of_z w64 (get_or c.args.items.now c.loop-lying.lying-index (pos 0))) ≡ get_or c.args.items.now c.loop-lying.lying-index (pos 0) = search rules in
    let own = rw (item, lying) at (c.once-count.ensures.value) in
    let others = rw (other, lying) at (c.once-left.ensures.value) in
    let so_far = rw (item, other) at (c.loop-lying.invariant.all) in
    let next = until_next c.args.item c.args.other (pos 0) c.loop-lying.left c.loop-lying.lying-index _ _ c.args.items.now c.loop-lying-test.true c.if-left-eq0.false own others in
    let one = c.once-count.ensures.few in
    let few = c.loop-lying.invariant.few in
    record { all = rw (item, other) (omega (arith, next, so_far)); few = omega (arith, one, few) }
