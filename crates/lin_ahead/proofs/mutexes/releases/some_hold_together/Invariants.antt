use Rattle.lin_history.specs.Problems.AnyProblem.{any_problem}
use Rattle.lin_ahead.proofs.mutexes.RowLemmas.{NoneTo}
use Rattle.lin_ahead.proofs.mutexes.releases.some_hold_together.Given as goal

abbrev pub invariant-loop-place : goal.invariant-loop-place
invariant-loop-place l = NoneTo (any_problem l.problem) l.place l.sections
