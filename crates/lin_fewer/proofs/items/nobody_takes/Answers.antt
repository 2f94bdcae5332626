use Rattle.std.proofs.Common.{arith}
use Rattle.lin_fewer.proofs.ItemLemmas.{taken_first, taken_more, taken_end, returned_within}
use Rattle.lin_fewer.proofs.items.nobody_takes.Goals as goal

pub loop-call-init : goal.loop-call-init
loop-call-init c = taken_first c.args.problem.now c.args.set.now c.args.ended.item c.args.first c.requires.below

pub loop-call-preserved : goal.loop-call-preserved
loop-call-preserved c = taken_more c.args.problem.now c.args.set.now c.args.ended.item c.loop-call.call c.loop-call.invariant (c.is_taker_left.ensures c.if-is_taker_left.false)

pub returns-then-call-ended : goal.returns-then-call-ended
returns-then-call-ended c = λ yes. taken_end c.args.problem.now c.args.set.now c.args.ended.item c.loop-call.call c.loop-call.invariant (λ d h. let w = c.requires.end d h in let e = c.if-call-ended.true in omega (arith, w, e))

pub returns : goal.returns
returns c = λ yes. taken_end c.args.problem.now c.args.set.now c.args.ended.item c.loop-call.call c.loop-call.invariant (λ d h. let w = returned_within c.args.problem.now d c.args.ended.item h in let e = c.loop-call-test.false in let n = c.len-call-end.ensures in omega (arith, w, e, n))
