use Rattle.std.proofs.Common.{ap, length}
use Rattle.lin_history.specs.Problems.Problem.{problem_of}
use Rattle.lin_fewer.proofs.KnowledgeLemmas.{pending_none}
use Rattle.lin_fewer.proofs.search.pending_calls.Goals as goal

pub loop-call-init : goal.loop-call-init
loop-call-init g c = pending_none (problem_of g.O.SeqObject.after g.O.State.PartialEq.eq g.O.Reply.PartialEq.eq c.args.problem.now) _ c.in_ok-pending.pending (ap length c.calls-calls.ensures.calls) c.in_ok-pending.ensures

pub returns : goal.returns
returns g c = c.loop-call.invariant.are
