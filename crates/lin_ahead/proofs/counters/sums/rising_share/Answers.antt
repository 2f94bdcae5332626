use Rattle.std.proofs.Common.{◌≤◌, ◌+◌, arith}
use Rattle.std.specs.Prelude.{slice_index_or}
use Rattle.lin_history.specs.Problems.AnyProblem.{any_problem}
use Rattle.lin_ahead.proofs.counters.SumLoadLemmas.{freely_more, freely_within}
use Rattle.lin_ahead.proofs.counters.sums.rising_share.Goals as goal

pub returns-then-call-at : goal.returns-then-call-at
returns-then-call-at c =
    freely_within (any_problem c.args.problem.now) c.args.config.now.lifted c.args.asked.up c.args.asked.get c.args.asked.call 0 c.loop-call.at c.args.below c.loop-call.sum c.loop-call.sum c.loop-call.invariant.free c.loop-call.invariant.within (omega arith)

pub loop-call-preserved : goal.loop-call-preserved
loop-call-preserved c =
    let at = c.if-call-at.false in
    let below = c.if-call-below.false in
    let next = slice_index_or c.args.calls.now c.loop-call.call-index 0 in
    let high : c.loop-call.at ≤ next = omega (arith, at) in
    let less : c.saturating_add-sum.result ≤ c.loop-call.sum + c.lifted_share.result = (let e = c.saturating_add-sum.ensures in omega (arith, e)) in
    record {
      free = freely_more (any_problem c.args.problem.now) c.args.config.now.lifted c.args.asked.up c.args.asked.get c.args.asked.call 0 c.loop-call.at next c.loop-call.sum c.lifted_share.result c.saturating_add-sum.result c.loop-call.invariant.free (omega arith) high c.lifted_share.ensures less;
      within = omega (arith, below);
    }

pub returns : goal.returns
returns c =
    freely_within (any_problem c.args.problem.now) c.args.config.now.lifted c.args.asked.up c.args.asked.get c.args.asked.call 0 c.loop-call.at c.args.below c.loop-call.sum c.loop-call.sum c.loop-call.invariant.free c.loop-call.invariant.within (omega arith)
