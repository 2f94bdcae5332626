use Rattle.lin_history.specs.Problems.Problem.{problem_of}
use Rattle.lin_ahead.proofs.items.LateLemmas.{held_first, held_more}
use Rattle.lin_ahead.proofs.items.late_pushes.held_to.Goals as goal

pub loop-count-init : goal.loop-count-init
loop-count-init g c = held_first (problem_of g.O.SeqObject.after g.O.State.PartialEq.eq g.O.Reply.PartialEq.eq c.args.problem.now) c.args.late.now c.args.config.now.lifted c.args.push c.popped_from-held.result c.popped_from-held.ensures

pub loop-count-preserved : goal.loop-count-preserved
loop-count-preserved g c = held_more (problem_of g.O.SeqObject.after g.O.State.PartialEq.eq g.O.Reply.PartialEq.eq c.args.problem.now) c.args.late.now c.args.config.now.lifted c.args.push c.loop-count.held c.held_with-held.result c.in-Some.other c.loop-count.invariant c.held_with-held.ensures

pub returns-then-not-is_returned_before : goal.returns-then-not-is_returned_before
returns-then-not-is_returned_before g c = held_more (problem_of g.O.SeqObject.after g.O.State.PartialEq.eq g.O.Reply.PartialEq.eq c.args.problem.now) c.args.late.now c.args.config.now.lifted c.args.push c.loop-count.held c.held_with-held.result c.in-Some.other c.loop-count.invariant c.held_with-held.ensures
