use Rattle.std.proofs.Common.{◌≡◌, ℕ, ◌<◌, ◌≤◌, true, Some, ◌⊎◌}
use Rattle.std.specs.Prelude.{slice_get, slice_index}
use Rattle.lin_object.specs.declared.op.Op.{Op}
use Rattle.lin_object.specs.declared.reply.Reply.{Reply}
use Rattle.lin_history.specs.declared.problems.problem.ProblemCall.{ProblemCall}
use Rattle.lin_history.specs.Problems.Lists.{In}
use Rattle.lin_core.specs.Windows.{is_over}
use Rattle.lin_core.specs.SuffixCores.{MayGoIn}
use Rattle.lin_core.proofs.windows.others_may_go_within.Given as goal

abbrev pub invariant-loop-c : goal.invariant-loop-c
invariant-loop-c g l = (k : ℕ) (x : ProblemCall Op Reply) → k < l.c → slice_get l.problem.calls k ≡ Some x → x.called ≤ l.window.event → In k l.window.calls.items ⊎ ((is_over l.window.from x.returned ≡ true) ⊎ MayGoIn l.window.key l.window.values.items x)
