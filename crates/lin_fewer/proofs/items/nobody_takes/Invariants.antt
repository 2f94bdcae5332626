use Rattle.lin_history.specs.Problems.AnyProblem.{any_problem}
use Rattle.lin_fewer.specs.Items.{AreTakenTo}
use Rattle.lin_fewer.proofs.items.nobody_takes.Given as goal

abbrev pub invariant-loop-call : goal.invariant-loop-call
invariant-loop-call l = AreTakenTo (any_problem l.problem) l.set l.ended.item l.call
