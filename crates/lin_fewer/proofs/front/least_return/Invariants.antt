use Rattle.lin_history.specs.Problems.Problem.{problem_of}
use Rattle.lin_fewer.proofs.FrontLemmas.{IsLowest}
use Rattle.lin_fewer.proofs.front.least_return.Given as goal

abbrev pub invariant-loop-call : goal.invariant-loop-call
invariant-loop-call g l = IsLowest (problem_of g.O.SeqObject.after g.O.State.PartialEq.eq g.O.Reply.PartialEq.eq l.problem) l.set l.call l.least
