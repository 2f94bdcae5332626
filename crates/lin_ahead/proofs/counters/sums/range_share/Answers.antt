use Rattle.std.proofs.Common.{◌≤◌, ◌+◌, arith, rules}
use Rattle.lin_history.specs.Problems.AnyProblem.{any_problem}
use Rattle.lin_ahead.proofs.counters.SumLoadLemmas.{freely_more}
use Rattle.lin_ahead.proofs.counters.sums.range_share.Goals as goal

pub loop-call-preserved : goal.loop-call-preserved
loop-call-preserved c =
    let low : c.args.from ≤ c.loop-call.call = search rules in
    let less : c.saturating_add-sum.result ≤ c.loop-call.sum + c.lifted_share.result = (let e = c.saturating_add-sum.ensures in omega (arith, e)) in
    freely_more (any_problem c.args.problem.now) c.args.config.now.lifted c.args.asked.up c.args.asked.get c.args.asked.call c.args.from c.loop-call.call c.loop-call.call c.loop-call.sum c.lifted_share.result c.saturating_add-sum.result c.loop-call.invariant low (omega arith) c.lifted_share.ensures less
