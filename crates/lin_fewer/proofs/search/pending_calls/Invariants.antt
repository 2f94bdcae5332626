use Rattle.lin_history.specs.Problems.Problem.{problem_of}
use Rattle.lin_fewer.specs.Knowledge.{ArePendingTo}
use Rattle.lin_fewer.proofs.search.pending_calls.Given as goal

abbrev pub invariant-loop-call : goal.invariant-loop-call
invariant-loop-call g l = ArePendingTo (problem_of g.O.SeqObject.after g.O.State.PartialEq.eq g.O.Reply.PartialEq.eq l.problem) l.pending l.call
