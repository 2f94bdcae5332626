use Rattle.std.proofs.Common.{◌≡◌, ℕ, ◌<◌, Some}
use Rattle.std.specs.Prelude.{slice_get, slice_index}
use Rattle.lin_object.specs.declared.op.Op.{Op}
use Rattle.lin_object.specs.declared.reply.Reply.{Reply}
use Rattle.lin_history.specs.declared.problems.problem.ProblemCall.{ProblemCall}
use Rattle.lin_history.specs.Problems.AnyProblem.{any_problem}
use Rattle.lin_core.specs.Rounds.{MayStay}
use Rattle.lin_core.proofs.part_check.may_all_stay.Given as goal

abbrev pub invariant-loop-i : goal.invariant-loop-i
invariant-loop-i g l = (k : ℕ) (x : ProblemCall Op Reply) → k < l.i → slice_get l.part.calls k ≡ Some x → MayStay (any_problem l.problem) l.selection.event l.selection.values.items l.selection.firsts.items l.selection.lasts.items (slice_index l.selection.calls.items k) x
