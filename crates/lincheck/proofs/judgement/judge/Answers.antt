use Rattle.std.proofs.Common.{◌≡◌, ◌+◌, length, refl, sym, subst, arith}
use Rattle.lincheck.specs.Stored.{IsStoredTold}
use Rattle.lincheck.proofs.StoredLemmas.{stored_none, stored_more}
use Rattle.lincheck.proofs.JudgeLemmas.{least_none, least_more, linearizations, verdict_yes}
use Rattle.lincheck.proofs.ExplainedLemmas.{witness_in}
use Rattle.lincheck.proofs.judgement.judge.Goals as goal

pub order_or_end-requires-clause-right : goal.order_or_end-requires-clause-right
order_or_end-requires-clause-right g c = (c.args.setting.now.bounds, c.in_ok-answer.ensures.answer)

pub loop-object-init : goal.loop-object-init
loop-object-init g c = (rw c.new-orders.ensures.items (least_none c.args.history.now), refl, stored_none c.args.history.now)

pub returns-in-Break-clause-stored : goal.returns-in-Break-clause-stored
returns-in-Break-clause-stored g c =
    subst (λ n. IsStoredTold c.args.history.now n c.with_more-stored.result) (sym (c.in_ok-order.ensures.judged c.in-Break.verdict c.in-Break.is))
    (stored_more c.args.history.now c.loop-object.object c.loop-object.stored c.in_ok-answer.more c.with_more-stored.result c.loop-object.invariant.2 c.in_ok-answer.ensures.stored c.with_more-stored.ensures.sum c.with_more-stored.ensures.told)

pub returns-in-Break-clause-verdict : goal.returns-in-Break-clause-verdict
returns-in-Break-clause-verdict g c =
    c.in_ok-order.ensures.end c.loop-object.orders.items c.args.setting.now.bounds c.loop-object.invariant.0 c.in_ok-answer.ensures.answer c.in-Break.verdict c.in-Break.is

pub loop-object-preserved : goal.loop-object-preserved
loop-object-preserved g c =
    (rw c.in_ok-push-in-Continue.ensures.items (least_more c.args.history.now c.loop-object.orders.items c.in-Continue.order c.loop-object.object c.loop-object.invariant.0 (c.in_ok-order.ensures.order c.in-Continue.order c.in-Continue.is)), c.loop-object.invariant.1, stored_more c.args.history.now c.loop-object.object c.loop-object.stored c.in_ok-answer.more c.with_more-stored.result c.loop-object.invariant.2 c.in_ok-answer.ensures.stored c.with_more-stored.ensures.sum c.with_more-stored.ensures.told)

pub join-requires-clause-each : goal.join-requires-clause-each
join-requires-clause-each g c =
    rw c.as_slice.ensures.value (linearizations c.args.history.now c.loop-object.orders.items c.loop-object.object c.loop-object.invariant.0)

pub returns-clause-stored : goal.returns-clause-stored
returns-clause-stored g c =
    let all : c.loop-object.object ≡ length c.args.history.now.objects = omega (arith, c.loop-object-test.false, c.loop-object.auto.object-end, c.len-object-end.ensures, c.in_ok-lists.ensures.count) in
    subst (λ n. IsStoredTold c.args.history.now n c.loop-object.stored) all c.loop-object.invariant.2

pub returns-clause-verdict : goal.returns-clause-verdict
returns-clause-verdict g c =
    let all : c.loop-object.object ≡ length c.args.history.now.objects = omega (arith, c.loop-object-test.false, c.loop-object.auto.object-end, c.len-object-end.ensures, c.in_ok-lists.ensures.count) in
    verdict_yes c.args.history.now c.loop-object.orders.items c.loop-object.object c.in_ok-join.field-0 all c.loop-object.invariant.0 (rw c.as_slice.ensures.value at c.in_ok-join.ensures.joined) c.in_ok-join.ensures.whole c.args.setting.now.bounds

pub returns-in-Break-clause-witness : goal.returns-in-Break-clause-witness
returns-in-Break-clause-witness g c = witness_in c.args.history.now c.in-Break.verdict c.loop-object.object c.in_ok-answer.witness (c.in_ok-order.ensures.judged c.in-Break.verdict c.in-Break.is) c.in_ok-answer.ensures.witness
