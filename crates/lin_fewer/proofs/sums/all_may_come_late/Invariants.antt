use Rattle.lin_history.specs.Problems.AnyProblem.{any_problem}
use Rattle.lin_fewer.specs.Adds.{MayComeLateTo}
use Rattle.lin_fewer.proofs.sums.all_may_come_late.Given as goal

abbrev pub invariant-calls : goal.invariant-calls
invariant-calls l = MayComeLateTo (any_problem l.waiting) l.config.lifted l.up l.call
