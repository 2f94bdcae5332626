use Rattle.lin_history.specs.Problems.AnyProblem.{any_problem}
use Rattle.lin_ahead.proofs.stacks.CrossedLemmas.{crossed_in_vain}
use Rattle.lin_ahead.proofs.stacks.crossed_pushes.some_push_crosses.Goals as goal

pub returns-in-Some : goal.returns-in-Some
returns-in-Some c found l =
    crossed_in_vain (any_problem c.args.problem.now) c.args.ahead.now.late c.requires.late _ (c.crosses.ensures found) l
