use Rattle.lin_decide.proofs.keys.PlaceLemmas.{taking_start, taking_more, taking_end}
use Rattle.lin_decide.proofs.keys.merge.take_up_to.Goals as goal

pub loop-merged-init : goal.loop-merged-init
loop-merged-init c = taking_start c.args.order.now c.args.place c.args.call _ c.requires

pub loop-merged-preserved : goal.loop-merged-preserved
loop-merged-preserved c = taking_more c.args.order.now c.args.place c.args.call _ _ _ c.loop-merged.next c.loop-merged.invariant (c.goes_on.ensures.there c.loop-merged-test.true) (c.goes_on.ensures.low c.loop-merged-test.true) c.in_ok-push.ensures.items

pub returns : goal.returns
returns c = taking_end c.args.order.now c.args.place c.args.call _ _ c.loop-merged.next c.loop-merged.invariant (c.goes_on.ensures.no c.loop-merged-test.false)
