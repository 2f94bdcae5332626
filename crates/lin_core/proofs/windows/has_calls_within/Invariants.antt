use Rattle.std.proofs.Common.{◌≡◌, ℕ, ◌<◌, ◌≤◌, true, Some, ◌⊎◌}
use Rattle.std.specs.Prelude.{slice_get, slice_index}
use Rattle.lin_object.specs.declared.op.Op.{Op}
use Rattle.lin_object.specs.declared.reply.Reply.{Reply}
use Rattle.lin_history.specs.declared.problems.problem.ProblemCall.{ProblemCall}
use Rattle.lin_core.specs.Windows.{call_in}
use Rattle.lin_core.proofs.windows.has_calls_within.Given as goal

abbrev pub invariant-loop-i : goal.invariant-loop-i
invariant-loop-i l = (k : ℕ) → k < l.i → (x : ProblemCall Op Reply) × (slice_get l.problem.calls (slice_index l.kept k) ≡ Some x) × (x.called ≤ l.event) × (slice_get l.part.calls k ≡ Some (call_in l.from l.event x))
