use Rattle.std.proofs.Common.{arith}
use Rattle.lin_history.specs.Problems.Problem.{problem_of}
use Rattle.lin_fewer.proofs.FrontLemmas.{lowest_first, lowest_next, least_end, least_late}
use Rattle.lin_fewer.proofs.front.least_return.Goals as goal

pub loop-call-init : goal.loop-call-init
loop-call-init g c = lowest_first (problem_of g.O.SeqObject.after g.O.State.PartialEq.eq g.O.Reply.PartialEq.eq c.args.problem.now) c.args.set.now c.args.first _ c.requires c.return_of-least.ensures

pub returns-then-is_later : goal.returns-then-is_later
returns-then-is_later g c = least_late (problem_of g.O.SeqObject.after g.O.State.PartialEq.eq g.O.Reply.PartialEq.eq c.args.problem.now) c.args.set.now c.loop-call.call c.loop-call.least c.loop-call.invariant (c.is_later.ensures.yes c.if-is_later.true)

pub loop-call-preserved : goal.loop-call-preserved
loop-call-preserved g c = lowest_next (problem_of g.O.SeqObject.after g.O.State.PartialEq.eq g.O.Reply.PartialEq.eq c.args.problem.now) c.args.set.now c.loop-call.call c.loop-call.least _ c.loop-call.invariant c.lesser_return-least.ensures

pub returns : goal.returns
returns g c = least_end (problem_of g.O.SeqObject.after g.O.State.PartialEq.eq g.O.Reply.PartialEq.eq c.args.problem.now) c.args.set.now c.loop-call.call c.loop-call.least c.loop-call.invariant (let e = c.loop-call-test.false in let n = c.len-call-end.ensures in omega (arith, e, n))
