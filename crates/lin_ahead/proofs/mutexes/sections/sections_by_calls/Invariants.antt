use Rattle.lin_history.specs.Problems.AnyProblem.{any_problem}
use Rattle.lin_ahead.proofs.mutexes.RowLemmas.{AreSectionsTo}
use Rattle.lin_ahead.proofs.mutexes.sections.sections_by_calls.Given as goal

abbrev pub invariant-loop-call : goal.invariant-loop-call
invariant-loop-call l = AreSectionsTo (any_problem l.problem) l.call l.sections.items
