use Rattle.lin_history.specs.Problems.AnyProblem.{any_problem}
use Rattle.lin_prefixes.specs.Questions.{AreAsked}
use Rattle.lin_prefixes.proofs.question.asked_calls.Given as goal

abbrev pub invariant-loop-call : goal.invariant-loop-call
invariant-loop-call l = AreAsked (any_problem l.problem) l.call l.question.takers.now l.calls.items
