use Rattle.lin_history.specs.Problems.AnyProblem.{any_problem}
use Rattle.lin_decide.specs.Begun.{IsBegunOf}
use Rattle.lin_decide.proofs.ladder.Ladder.rounds.Given as goal

abbrev pub invariant-loop-round : goal.invariant-loop-round
invariant-loop-round g l = IsBegunOf (any_problem l.problem) l.begun
