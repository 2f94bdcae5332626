use Rattle.std.proofs.Common.{◌+◌, arith}
use Rattle.lin_fewer.proofs.AddLemmas.{late_more, late_skip, next_late, next_all, begins_completed}
use Rattle.lin_fewer.proofs.sums.all_may_come_late.Goals as goal

pub calls-init : goal.calls-init
calls-init c = late_skip c.args.waiting.now c.args.up c.args.config.now.lifted 0 (λ a less within outside. absurd (omega (arith, less))) c.next_left-call.result (λ a from less within. let x = c.next_left-call.ensures.between a from less within in c.requires.first.below a x.1 x.0)

pub calls-preserved : goal.calls-preserved
calls-preserved c = late_skip c.args.waiting.now c.args.up c.args.config.now.lifted (c.calls.call + 1) (late_more c.args.waiting.now c.args.up c.args.config.now.lifted c.calls.call c.calls.invariant (rw (c.problem-problem.ensures, c.lifted.ensures) at c.is_lifted_or_late.ensures c.if-not-is_lifted_or_late.false)) c.next_left-call-in-calls.result (λ a from less within. let x = c.next_left-call-in-calls.ensures.between a from less within in c.requires.first.below a x.1 x.0)

pub returns-then-is_later : goal.returns-then-is_later
returns-then-is_later c = λ yes. begins_completed c.args.waiting.now (rw c.problem-problem.ensures at c.fewer_law.ensures) (λ s. c.lawful.ensures.states.refl s) c.args.up c.args.config.now c.args.first c.in-Some._number (rw (c.in-Some.is, c.state.ensures) at c.number_of.ensures.is) c.requires.reachable.flags (rw c.in-Some.is at c.number_of.ensures.range) (next_late c.args.waiting.now (rw c.problem-problem.ensures at c.fewer_law.ensures) (λ s. c.lawful.ensures.states.refl s) c.args.up c.args.config.now.lifted c.calls.call c.args.bound c.calls.invariant c.requires.bound (rw c.problem-problem.ensures at (c.is_later.ensures.yes c.if-is_later.true))) c.requires.first

pub returns-then-call-len : goal.returns-then-call-len
returns-then-call-len c = λ yes. begins_completed c.args.waiting.now (rw c.problem-problem.ensures at c.fewer_law.ensures) (λ s. c.lawful.ensures.states.refl s) c.args.up c.args.config.now c.args.first c.in-Some._number (rw (c.in-Some.is, c.state.ensures) at c.number_of.ensures.is) c.requires.reachable.flags (rw c.in-Some.is at c.number_of.ensures.range) (next_all c.args.waiting.now (rw c.problem-problem.ensures at c.fewer_law.ensures) (λ s. c.lawful.ensures.states.refl s) c.args.up c.args.config.now.lifted c.calls.call c.calls.invariant (let n = rw c.problem-problem.ensures at c.len.ensures in let t = c.if-call-len.true in omega (arith, n, t))) c.requires.first
