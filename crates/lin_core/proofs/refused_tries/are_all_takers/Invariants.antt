use Rattle.std.proofs.Common.{◌≡◌, ℕ, ◌<◌, ◌≤◌, Some, true}
use Rattle.std.specs.Prelude.{pos, slice_get}
use Rattle.lin_object.specs.declared.op.Op.{Op}
use Rattle.lin_object.specs.declared.reply.Reply.{Reply}
use Rattle.lin_object.specs.Items.{is_in}
use Rattle.lin_history.specs.declared.problems.problem.ProblemCall.{ProblemCall}
use Rattle.lin_core.specs.Rounds.{may_take}
use Rattle.lin_core.proofs.refused_tries.are_all_takers.Given as goal

abbrev pub invariant-loop-c : goal.invariant-loop-c
invariant-loop-c g l = (k : ℕ) (x : ProblemCall Op Reply) → k < l.c → slice_get l.problem.calls k ≡ Some x → x.called ≤ l.event → may_take x.op ≡ true → is_in (pos x.process) l.values ≡ true
