use Rattle.std.proofs.Common.{rules}
use Rattle.lin_history.specs.Problems.AnyProblem.{any_problem}
use Rattle.lin_ahead.proofs.items.TakerLemmas.{lacks_is}
use Rattle.lin_ahead.proofs.queues.takers.lacks_takers_for.Goals as goal

pub returns : goal.returns
returns c =
    lacks_is c.calls-calls.result.now (any_problem c.args.problem.now) c.args.after.now.config.now.lifted c.args.after.now.call c.args.after.now.items.now c.args.wanting.put c.args.wanting.taker c.in-Some.event c.calls-calls.ensures.calls c.in-Some.ensures (λ same. search rules) (c.finds_gone.ensures c.if-not-finds_gone.false) c.are_too_few.result c.are_too_few.ensures
