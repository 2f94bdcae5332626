use Rattle.std.proofs.Common.{◌≡◌, ℕ, ◌≤◌, ◌⊎◌, inl, inr, true, false, arith}
use Rattle.std.specs.Prelude.{slice_index_or}
use Rattle.lin_object.specs.declared.op.Op.{Op}
use Rattle.lin_object.specs.declared.reply.Reply.{Reply}
use Rattle.lin_history.specs.declared.problems.problem.ProblemCall.{ProblemCall}
use Rattle.lin_core.specs.Laws.{IsOff}
use Rattle.lin_core.proofs.CheckLemmas.{below, each_more}
use Rattle.lin_core.proofs.part_check.others_may_go.Goals as goal
use Rattle.lin_core.proofs.part_check.others_may_go.Goals.{else-call-event-via-then-call-event+then-not-may_go+else-not-has, else-call-event-via-then-call-event+else-not-may_go, else-call-event-via-else-call-event}

pub loop-c-preserved : goal.loop-c-preserved
loop-c-preserved g c = each_more c.args.problem.now.calls
    (λ (k : ℕ) (x : ProblemCall Op Reply). x.called ≤ c.args.event → (IsOff c.args.values.now x) ⊎ ((slice_index_or c.args.standing.now.kept.items k false ≡ true) ⊎ ((slice_index_or c.args.standing.now.firsts.items k false ≡ true) ⊎ (slice_index_or c.args.standing.now.lasts.items k false ≡ true))))
    c.loop-c.c c.call-call.result.now c.call-call.ensures
    (elim c.else-call-event.branch [
      | else-call-event-via-then-call-event+then-not-may_go+else-not-has w ↦ λ up. inr (w.has.ensures w.if-not-has.false)
      | else-call-event-via-then-call-event+else-not-may_go w ↦ λ up. inl (w.may_go.ensures w.if-not-may_go.false)
      | else-call-event-via-else-call-event w ↦ λ up. absurd (let late = w.if-call-event.false in omega (arith, up, late))
    ])
    c.loop-c.invariant

pub returns : goal.returns
returns g c = λ yes k x e up. c.loop-c.invariant k x (let within = below c.args.problem.now.calls k x e in let a = c.loop-c-test.false in let b = c.loop-c.auto.c-end in let n = c.len-c-end.ensures in omega (arith, within, a, b, n)) e up
