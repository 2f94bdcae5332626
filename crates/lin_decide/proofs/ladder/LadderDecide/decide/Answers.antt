use Rattle.lin_history.specs.Problems.AnyProblem.{any_problem}
use Rattle.lin_decide.proofs.ladder.LadderDecide.decide.Goals as goal

pub decide_from-requires : goal.decide_from-requires
decide_from-requires g c = c.nothing-begun.ensures (any_problem c.args.problem.now)
