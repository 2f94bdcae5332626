use Rattle.std.proofs.Common.{sym, ◌∙◌, true≢false, arith}
use Rattle.lin_ahead.proofs.mutexes.ReleaseLemmas.{none_more}
use Rattle.lin_ahead.proofs.mutexes.releases.unlocks_among.Goals as goal

-- src/mutexes/releases.rt:43:5
pub loop-call-init : goal.loop-call-init
loop-call-init c = λ w x e op own low high. absurd (omega (arith, low, high))

-- src/mutexes/releases.rt:43:5
pub loop-call-preserved : goal.loop-call-preserved
loop-call-preserved c = none_more c.args.problem.now c.args.process c.args.first c.loop-call.call c.call.result.now c.call.ensures (λ own. true≢false (sym (c.is_unlock_of.ensures.1 own) ∙ c.if-is_unlock_of.false)) c.loop-call.invariant

-- src/mutexes/releases.rt:39:1
pub returns : goal.returns
returns c = (λ e. absurd (true≢false (sym e)), λ h. absurd (c.loop-call.invariant h.0 h.1 h.2 h.3 h.4 h.5 (let a = c.loop-call-test.false in let b = h.6 in omega (arith, a, b))))
