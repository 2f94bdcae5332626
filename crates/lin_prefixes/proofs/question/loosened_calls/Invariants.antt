use Rattle.lin_history.specs.Problems.AnyProblem.{any_problem}
use Rattle.lin_prefixes.proofs.QuestionLemmas.{AreLoosened}
use Rattle.lin_prefixes.proofs.question.loosened_calls.Given as goal

abbrev pub invariant-loop-call : goal.invariant-loop-call
invariant-loop-call l = AreLoosened (any_problem l.problem) l.question.call l.question.kept.now l.question.takers.now l.call l.calls.items
