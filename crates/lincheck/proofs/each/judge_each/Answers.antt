use Rattle.std.proofs.Common.{◌≡◌, ℕ, ◌+◌, ◌∷◌, [], ◌∙◌, ap, length, length-append, refl, subst, arith}
use Rattle.lincheck.specs.Each.{AreStatusesOf}
use Rattle.lincheck.specs.Stored.{IsStoredTold}
use Rattle.lincheck.proofs.StoredLemmas.{stored_none, stored_more}
use Rattle.lincheck.proofs.EachLemmas.{statuses_none, statuses_more, witnesses_none, witnesses_more}
use Rattle.lincheck.proofs.each.judge_each.Goals as goal

pub loop-object-init : goal.loop-object-init
loop-object-init g c = (rw c.new-statuses.ensures.items (statuses_none c.args.history.now c.args.setting.now.bounds), refl, stored_none c.args.history.now, rw c.new-witnesses.ensures.items refl, rw c.new-witnesses.ensures.items (witnesses_none c.args.history.now))

pub loop-object-preserved : goal.loop-object-preserved
loop-object-preserved g c = (
  rw c.in_ok-push.ensures.items (statuses_more c.args.history.now c.args.setting.now.bounds c.loop-object.object c.loop-object.statuses.items c.status_by.result c.loop-object.invariant.0 (c.status_by.ensures c.args.history.now _ c.args.setting.now.bounds c.loop-object.object c.in_ok-answer.ensures.answer)),
  c.loop-object.invariant.1,
  stored_more c.args.history.now c.loop-object.object c.loop-object.stored c.in_ok-answer.more c.with_more-stored.result c.loop-object.invariant.2 c.in_ok-answer.ensures.stored c.with_more-stored.ensures.sum c.with_more-stored.ensures.told,
  rw c.in_ok-push-2.ensures.items (length-append c.loop-object.witnesses.items (c.in_ok-answer.witness ∷ []) ∙ ap (λ (k : ℕ). k + 1) c.loop-object.invariant.3),
  rw c.in_ok-push-2.ensures.items (witnesses_more c.args.history.now c.loop-object.object c.loop-object.witnesses.items c.in_ok-answer.witness c.loop-object.invariant.3 c.loop-object.invariant.4 c.in_ok-answer.ensures.witness),
)

pub returns-clause-statuses : goal.returns-clause-statuses
returns-clause-statuses g c =
    let all : c.loop-object.object ≡ length c.args.history.now.objects = omega (arith, c.loop-object-test.false, c.loop-object.auto.object-end, c.len-object-end.ensures, c.in_ok-lists.ensures.count) in
    subst (λ n. AreStatusesOf c.args.history.now c.args.setting.now.bounds n c.loop-object.statuses.items) all c.loop-object.invariant.0

pub returns-clause-stored : goal.returns-clause-stored
returns-clause-stored g c =
    let all : c.loop-object.object ≡ length c.args.history.now.objects = omega (arith, c.loop-object-test.false, c.loop-object.auto.object-end, c.len-object-end.ensures, c.in_ok-lists.ensures.count) in
    subst (λ n. IsStoredTold c.args.history.now n c.loop-object.stored) all c.loop-object.invariant.2
