use Rattle.std.proofs.Common.{rules}
use Rattle.lin_history.specs.Problems.AnyProblem.{any_problem}
use Rattle.lin_ahead.proofs.stacks.PopLemmas.{known_pops}
use Rattle.lin_ahead.proofs.stacks.StackRowLemmas.{exact_any}
use Rattle.lin_ahead.proofs.stacks.rules.StackRulesRulesAnyObject.leads_to_none.Goals as goal

pub returns : goal.returns
returns c =
    known_pops (any_problem c.args.problem.now) (exact_any c.args.problem.now) c.args.config.now.lifted c.args.config.now.state c.args.call c.args.state.now _ c.requires.next (search rules) c.lacks_pops.result c.lacks_pops.ensures
