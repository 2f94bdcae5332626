use Rattle.std.proofs.Common.{arith, ◌+◌}
use Rattle.lin_fewer.proofs.AddLemmas.{add_none, add_skip, add_all, add_late}
use Rattle.lin_fewer.proofs.sums.sum_before.Goals as goal

pub calls-init : goal.calls-init
calls-init c = add_skip c.args.waiting.now c.args.set.now c.args.asked.up c.args.asked.get 0 0 0 (add_none c.args.waiting.now c.args.set.now c.args.asked.up c.args.asked.get) c.next_left-call.result c.next_left-call.ensures.up (λ a from less within. let x = c.next_left-call.ensures.between a from less within in c.requires.below a x.1 x.0)

pub calls-preserved : goal.calls-preserved
calls-preserved c = add_skip c.args.waiting.now c.args.set.now c.args.asked.up c.args.asked.get (c.calls.call + 1) c.in-Some.more.sum c.in-Some.more.back (rw (c.in-Some.is, c.problem-problem.ensures) at c.with_part.ensures) c.next_left-call-in-calls.result c.next_left-call-in-calls.ensures.up (λ a from less within. let x = c.next_left-call-in-calls.ensures.between a from less within in c.requires.below a x.1 x.0)

pub returns-then-is_later : goal.returns-then-is_later
returns-then-is_later c = add_late c.args.waiting.now c.args.set.now c.args.asked.up c.args.asked.get c.calls.call c.calls.added.sum c.calls.added.back c.calls.invariant c.args.asked.got c.requires.got (rw c.problem-problem.ensures at (c.is_later.ensures.yes c.if-is_later.true))

pub returns-then-call-len : goal.returns-then-call-len
returns-then-call-len c = add_all c.args.waiting.now c.args.set.now c.args.asked.up c.args.asked.get c.calls.call c.calls.added.sum c.calls.added.back c.calls.invariant (let n = rw c.problem-problem.ensures at c.len.ensures in let t = c.if-call-len.true in omega (arith, n, t))
