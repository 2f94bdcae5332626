use Rattle.std.proofs.Common.{◌≡◌, ℕ, ◌≤◌, Some, ap, sym, subst, ◌∙◌, inl, inr, arith}
use Rattle.std.specs.Prelude.{slice_get, slice_index}
use Rattle.lin_object.specs.declared.op.Op.{Op}
use Rattle.lin_object.specs.declared.reply.Reply.{Reply}
use Rattle.lin_history.specs.declared.problems.problem.ProblemCall.{ProblemCall}
use Rattle.lin_parts.specs.ListLemmas.{last_or}
use Rattle.lin_core.specs.Windows.{call_in}
use Rattle.lin_core.proofs.windows.has_calls_within.Goals as goal

pub loop-i-preserved : goal.loop-i-preserved
loop-i-preserved c = λ k h. elim (last_or k c.loop-i.i h) [
  | inl early ↦ c.loop-i.invariant k early
  | inr same ↦ subst (λ (j : ℕ). (x : ProblemCall Op Reply) × (slice_get c.args.problem.now.calls (slice_index c.args.kept.now j) ≡ Some x) × (x.called ≤ c.args.event) × (slice_get c.args.part.now.calls j ≡ Some (call_in c.args.from c.args.event x))) (sym same)
      (c.call-call.result.now, c.call-call.ensures, (let up = c.if-call-event.false in omega (arith, up)), c.call.ensures ∙ ap Some (c.is_call_in.ensures c.if-not-is_call_in.false))
]
