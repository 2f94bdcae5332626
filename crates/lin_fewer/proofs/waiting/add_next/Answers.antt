use Rattle.std.proofs.Common.{length, ◌≤◌, arith}
use Rattle.lin_history.specs.Problems.Problem.{problem_of}
use Rattle.lin_fewer.proofs.WaitingLemmas.{next_completed, entry_short, entry_full}
use Rattle.lin_fewer.proofs.waiting.add_next.Goals as goal

pub returns-then-is_completed : goal.returns-then-is_completed
returns-then-is_completed g c = next_completed (problem_of g.O.SeqObject.after g.O.State.PartialEq.eq g.O.Reply.PartialEq.eq c.args.problem.now) c.args.next.now.items c.args.call c.requires.next (c.is_completed.ensures.0 c.if-is_completed.true)

pub loop-next-init : goal.loop-next-init
loop-next-init g c = ((λ short. c.requires.next), (λ long. absurd (let f = c.requires.next.few in omega (arith, f, long))))

pub loop-next-preserved : goal.loop-next-preserved
loop-next-preserved g c =
    let short : length c.loop-next.next.items ≤ c.args.call = (let e = c.len.ensures in let t = c.loop-next-test.true in omega (arith, e, t)) in
    let are = c.loop-next.invariant.0 short in
    rw c.in_ok-push.ensures.items (entry_short (problem_of g.O.SeqObject.after g.O.State.PartialEq.eq g.O.Reply.PartialEq.eq c.args.problem.now) c.loop-next.next.items c.args.call are short, entry_full (problem_of g.O.SeqObject.after g.O.State.PartialEq.eq g.O.Reply.PartialEq.eq c.args.problem.now) c.loop-next.next.items c.args.call are short)

pub returns : goal.returns
returns g c = c.loop-next.invariant.1 (let e = c.len.ensures in let t = c.loop-next-test.false in omega (arith, e, t))
