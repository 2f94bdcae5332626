use Rattle.lin_history.specs.Problems.AnyProblem.{any_problem}
use Rattle.lin_decide.proofs.ladder.Ladder.decide_from.Goals as goal

pub returns-clause-decided : goal.returns-clause-decided
returns-clause-decided g c = c.decision_of.ensures.decided (any_problem c.args.problem.now) c.in_ok-told.ensures.told
