use Rattle.std.proofs.Common.{arith}
use Rattle.lin_history.specs.Problems.Problem.{problem_of}
use Rattle.lin_fewer.proofs.FrontLemmas.{left_past, completed_within}
use Rattle.lin_fewer.proofs.front.first_left.Goals as goal

pub returns-then-is_left-clause-some : goal.returns-then-is_left-clause-some
returns-then-is_left-clause-some g c = (let h = c.is_left.ensures.0 c.if-is_left.true in record { within = (let e = c.loop-call-test.true in let n = c.len-call-end.ensures in omega (arith, e, n)); completed = h.0; outside = h.1; below = c.loop-call.invariant })

pub loop-call-preserved : goal.loop-call-preserved
loop-call-preserved g c = left_past (problem_of g.O.SeqObject.after g.O.State.PartialEq.eq g.O.Reply.PartialEq.eq c.args.problem.now) c.args.set.now c.loop-call.call c.loop-call.invariant (λ h. (let e = c.is_left.ensures.1 h in let f = c.if-is_left.false in cc))

pub returns-clause-none : goal.returns-clause-none
returns-clause-none g c = λ k done. c.loop-call.invariant k (let w = completed_within (problem_of g.O.SeqObject.after g.O.State.PartialEq.eq g.O.Reply.PartialEq.eq c.args.problem.now) k done in let e = c.loop-call-test.false in let n = c.len-call-end.ensures in omega (arith, w, e, n)) done
