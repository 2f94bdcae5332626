use Rattle.std.proofs.Common.{arith}
use Rattle.lin_parts.specs.ListLemmas.{flag_not}
use Rattle.lin_lost.proofs.WalkLemmas.{one_more}
use Rattle.lin_lost.proofs.walk.flags_of_distinct.Goals as goal

pub loop-call-preserved : goal.loop-call-preserved
loop-call-preserved c =
    let count = c.loop-call.invariant.count in
    let within = c.if-call-count.false in
    one_more c.loop-call.flags.items c.args.calls.now c.args.count c.loop-call.call-index c.loop-call-test.true within (flag_not c.loop-call.flags.items _ c.index.result.now (omega (arith, count, within)) c.index.ensures c.if-index.false) c.loop-call.invariant
