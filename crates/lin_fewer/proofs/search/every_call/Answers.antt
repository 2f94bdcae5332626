use Rattle.std.proofs.Common.{arith, ap, length}
use Rattle.lin_history.specs.Problems.Problem.{problem_of}
use Rattle.lin_fewer.proofs.KnowledgeLemmas.{every_none, every_more, every_end}
use Rattle.lin_fewer.proofs.search.every_call.Goals as goal

pub loop-call-init : goal.loop-call-init
loop-call-init g c = every_none (problem_of g.O.SeqObject.after g.O.State.PartialEq.eq g.O.Reply.PartialEq.eq c.args.problem.now) _ c.in_ok-every.every (ap length c.calls-calls.ensures.calls) c.in_ok-every.ensures

pub insert-requires-clause-within : goal.insert-requires-clause-within
insert-requires-clause-within g c = (let f = c.loop-call.invariant.flags in let e = c.loop-call-test.true in let n = ap length c.calls-calls.ensures.calls in omega (arith, f, e, n))

pub insert-requires-clause-outside : goal.insert-requires-clause-outside
insert-requires-clause-outside g c = c.loop-call.invariant.later c.loop-call.call (omega arith)

pub loop-call-preserved : goal.loop-call-preserved
loop-call-preserved g c = every_more (problem_of g.O.SeqObject.after g.O.State.PartialEq.eq g.O.Reply.PartialEq.eq c.args.problem.now) c.loop-call.every _ c.loop-call.call (let e = c.loop-call-test.true in let n = ap length c.calls-calls.ensures.calls in omega (arith, e, n)) c.loop-call.invariant c.in_ok-insert.ensures.lifted

pub returns : goal.returns
returns g c = every_end (problem_of g.O.SeqObject.after g.O.State.PartialEq.eq g.O.Reply.PartialEq.eq c.args.problem.now) c.loop-call.every c.loop-call.call (let e = c.loop-call-test.false in let n = ap length c.calls-calls.ensures.calls in omega (arith, e, n)) c.loop-call.invariant
