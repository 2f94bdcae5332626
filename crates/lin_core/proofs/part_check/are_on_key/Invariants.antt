use Rattle.std.proofs.Common.{◌≡◌, ℕ, ◌<◌, Some}
use Rattle.std.specs.Prelude.{slice_get}
use Rattle.lin_object.specs.declared.op.Op.{Op}
use Rattle.lin_object.specs.declared.reply.Reply.{Reply}
use Rattle.lin_history.specs.declared.problems.problem.ProblemCall.{ProblemCall}
use Rattle.lin_core.specs.KeyValues.{IsOnKey}
use Rattle.lin_core.proofs.part_check.are_on_key.Given as goal

abbrev pub invariant-loop-i : goal.invariant-loop-i
invariant-loop-i l = (k : ℕ) (x : ProblemCall Op Reply) → k < l.i → slice_get l.part.calls k ≡ Some x → IsOnKey l.key.key l.key.nothing l.values x
