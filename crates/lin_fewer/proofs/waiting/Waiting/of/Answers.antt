use Rattle.lin_history.specs.Problems.Problem.{problem_of}
use Rattle.lin_fewer.proofs.WaitingLemmas.{next_none}
use Rattle.lin_fewer.proofs.waiting.Waiting.of.Goals as goal

pub loop-call-init : goal.loop-call-init
loop-call-init g c = rw c.new-next.ensures.items (next_none (problem_of g.O.SeqObject.after g.O.State.PartialEq.eq g.O.Reply.PartialEq.eq c.args.problem.now))

pub loop-call-preserved : goal.loop-call-preserved
loop-call-preserved g c = c.in_ok-add_next.ensures
