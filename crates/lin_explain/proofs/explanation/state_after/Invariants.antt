use Rattle.std.proofs.Common.{drop}
use Rattle.lin_history.specs.Problems.AnyProblem.{any_problem}
use Rattle.lin_explain.proofs.StateLemmas.{IsWay}
use Rattle.lin_explain.proofs.explanation.state_after.Given as goal

abbrev pub invariant-loop-number : goal.invariant-loop-number
invariant-loop-number l = IsWay (any_problem l.problem) l.problem.start l.run l.state (drop l.number-index l.run)
