use Rattle.lin_history.specs.Problems.Problem.{problem_of}
use Rattle.lin_fewer.specs.Nodes.{IsAt, NoneBeginsBelow}
use Rattle.lin_fewer.proofs.completed_calls.next_call.Given as goal

abbrev pub invariant-loop-call : goal.invariant-loop-call
invariant-loop-call g l = IsAt l.nodes l.place.index (λ x. NoneBeginsBelow (problem_of g.O.SeqObject.after g.O.State.PartialEq.eq g.O.Reply.PartialEq.eq l.search) x.config l.call)
