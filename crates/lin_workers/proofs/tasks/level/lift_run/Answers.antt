use Rattle.lin_history.specs.Problems.Problem.{problem_of}
use Rattle.lin_workers.proofs.RunLemmas.{call_at_run}
use Rattle.lin_workers.proofs.tasks.level.lift_run.Goals as goal

pub lift-requires-clause-within : goal.lift-requires-clause-within
lift-requires-clause-within g c = rw (c.loop-call.invariant.problem) (call_at_run (problem_of g.O.SeqObject.after g.O.State.PartialEq.eq g.O.Reply.PartialEq.eq c.args.entries.now.problem) _ _ 0 c.loop-call-test.true c.requires.run).0

pub lift-requires-clause-outside : goal.lift-requires-clause-outside
lift-requires-clause-outside g c = rw (c.loop-call.invariant.problem, c.loop-call.invariant.lifted) (call_at_run (problem_of g.O.SeqObject.after g.O.State.PartialEq.eq g.O.Reply.PartialEq.eq c.args.entries.now.problem) _ _ 0 c.loop-call-test.true c.requires.run).1
