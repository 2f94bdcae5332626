use Rattle.lin_history.specs.Problems.AnyProblem.{any_problem}
use Rattle.lin_explain.proofs.NextLemmas.{AreNextBelow}
use Rattle.lin_explain.proofs.next_calls.next_calls.Given as goal

abbrev pub invariant-loop-call : goal.invariant-loop-call
invariant-loop-call l = AreNextBelow (any_problem l.problem) l.run l.call l.next.items
