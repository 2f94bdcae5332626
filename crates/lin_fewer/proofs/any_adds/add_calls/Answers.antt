use Rattle.std.proofs.Common.{ℕ, arith}
use Rattle.lin_history.specs.Problems.AnyProblem.{any_problem}
use Rattle.lin_fewer.specs.AnyAdds.{IsTaken}
use Rattle.lin_fewer.proofs.ReadLemmas.{below_more}
use Rattle.lin_fewer.proofs.AnyAddsLemmas.{as_much_more, taken_all, taken_late, taken_still}
use Rattle.lin_fewer.proofs.any_adds.add_calls.Goals as goal

pub returns-then-is_later-clause-taken : goal.returns-then-is_later-clause-taken
returns-then-is_later-clause-taken c = taken_late c.args.counted.now.problem.now c.args.counted.now.start c.args.from.now c.loop-call.layer.items c.least_return-bound.result c.loop-call.call c.least_return-bound.ensures (c.is_later.ensures.yes c.if-is_later.true) c.loop-call.invariant.2

pub loop-call-preserved : goal.loop-call-preserved
loop-call-preserved c = (c.in_ok-add_call.ensures.layer, as_much_more _ _ _ c.loop-call.invariant.1 c.in_ok-add_call.ensures.more, below_more (λ (d : ℕ). IsTaken (any_problem c.args.counted.now.problem.now) c.args.counted.now.start c.args.from.now c.add_call.new.layer.items d) c.loop-call.call (λ d less. taken_still c.args.counted.now.problem.now c.args.counted.now.start c.args.from.now c.loop-call.layer.items c.add_call.new.layer.items d c.in_ok-add_call.ensures.more (c.loop-call.invariant.2 d less)) c.in_ok-add_call.ensures.taken)

pub returns-clause-taken : goal.returns-clause-taken
returns-clause-taken c = taken_all c.args.counted.now.problem.now c.args.counted.now.start c.args.from.now c.loop-call.layer.items c.loop-call.call (let e = c.loop-call-test.false in let n = c.len-call-end.ensures in omega (arith, e, n)) c.loop-call.invariant.2
