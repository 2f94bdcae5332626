use Rattle.lin_history.specs.Problems.AnyProblem.{any_problem}
use Rattle.lin_fewer.specs.Adds.{AddBefore}
use Rattle.lin_fewer.proofs.sums.sum_before.Given as goal

abbrev pub invariant-calls : goal.invariant-calls
invariant-calls l = AddBefore (any_problem l.waiting) l.set l.asked.up l.asked.get l.call l.added.sum l.added.back
