use Rattle.std.proofs.Common.{◌≡◌, map, take}
use Rattle.lin_history.specs.Problems.AnyProblem.{any_problem}
use Rattle.lin_explain.specs.Explanation.{next_in}
use Rattle.lin_explain.proofs.explanation.with_answers.Given as goal

abbrev pub invariant-loop-call : goal.invariant-loop-call
invariant-loop-call l = l.next.items ≡ map (next_in (any_problem l.problem) l.state) (take l.call-index l.calls)
