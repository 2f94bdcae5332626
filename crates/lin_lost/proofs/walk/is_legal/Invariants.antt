use Rattle.std.proofs.Common.{take}
use Rattle.lin_history.specs.Problems.AnyProblem.{any_problem}
use Rattle.lin_history.specs.Problems.LegalLists.{Legal}
use Rattle.lin_lost.proofs.walk.is_legal.Given as goal

-- the calls so far led to the state
abbrev pub invariant-loop-call : goal.invariant-loop-call
invariant-loop-call l = Legal (any_problem l.problem) l.problem.start (take l.call-index l.calls) l.state
