use Rattle.std.proofs.Common.{rules, ◌∙◌}
use Rattle.lin_history.specs.Problems.AnyProblem.{any_problem}
use Rattle.lin_ahead.proofs.stacks.PopLemmas.{lacks_pops_is}
use Rattle.lin_ahead.proofs.stacks.takers.lacks_pops_for.Goals as goal

pub returns : goal.returns
returns c =
    lacks_pops_is c.as_slice-calls.result.now (any_problem c.args.problem.now) c.args.after.now.config.now.lifted c.args.after.now.call c.args.after.now.items.now c.in-Some-2.items c.args.finding.until.taker c.args.finding.finder.taker c.in-Some.event (c.as_slice-calls.ensures.value ∙ c.requires.0) c.in-Some.ensures (λ same. search rules) (rw c.in-Some-2.is at c.in_ok-items.ensures) (search rules) c.are_too_few.result c.are_too_few.ensures
