use Rattle.std.proofs.Common.{inl, inr, refl, arith, sym, ◌∙◌}
use Rattle.lin_parts.specs.ListLemmas.{rising_more, rising_distinct, in_more}
use Rattle.lin_core.proofs.CheckLemmas.{below}
use Rattle.lin_core.proofs.EmptiedLemmas.{others_more, others_still}
use Rattle.lin_core.proofs.emptied.others_on.Goals as goal
use Rattle.lin_core.proofs.emptied.others_on.Goals.{then-call-event+then-not-may_go+then-not-has_flag+in_ok-push, else-call-event, else-call-event-via-then-call-event+then-not-may_go+else-not-has_flag, else-call-event-via-then-call-event+else-not-may_go, else-call-event-via-else-call-event}

pub loop-c-preserved : goal.loop-c-preserved
loop-c-preserved c = elim c.if-call-event.branch [
  | then-call-event+then-not-may_go+then-not-has_flag+in_ok-push w ↦ rw w.others-is (rw w.in_ok-push.ensures.items (record {
    rises = rising_more c.loop-c.others.items c.loop-c.c c.loop-c.invariant.rises c.loop-c.invariant.below;
    below = λ k h. in_more c.loop-c.others.items k c.loop-c.c c.loop-c.c c.loop-c.invariant.below refl h;
    each = others_more c.args.problem.now.calls c.args.event c.args.flags.now c.args.values.now c.loop-c.c c.call-call.result.now c.call-call.ensures c.loop-c.others.items c.loop-c.invariant.each;
  }))
  | else-call-event w ↦ rw w.others-is (record {
    rises = c.loop-c.invariant.rises;
    below = λ k h. (let less = c.loop-c.invariant.below k h in omega (arith, less));
    each = others_still c.args.problem.now.calls c.args.event c.args.flags.now c.args.values.now c.loop-c.c c.call-call.result.now c.call-call.ensures c.loop-c.others.items c.loop-c.invariant.each
        (elim w.else-call-event.branch [
          | else-call-event-via-then-call-event+then-not-may_go+else-not-has_flag v ↦ λ up. inl (sym v.has_flag.ensures ∙ v.if-not-has_flag.false)
          | else-call-event-via-then-call-event+else-not-may_go v ↦ λ up. inr (v.may_go.ensures v.if-not-may_go.false)
          | else-call-event-via-else-call-event v ↦ λ up. absurd (let late = v.if-call-event.false in omega (arith, up, late))
        ]);
  })
]

pub returns-clause-distinct : goal.returns-clause-distinct
returns-clause-distinct c = rising_distinct c.loop-c.others.items c.loop-c.invariant.rises

pub returns-clause-each : goal.returns-clause-each
returns-clause-each c = λ k x e up. c.loop-c.invariant.each k x (let within = below c.args.problem.now.calls k x e in let a = c.loop-c-test.false in let b = c.loop-c.auto.c-end in let n = c.len-c-end.ensures in omega (arith, within, a, b, n)) e up
