use Rattle.std.proofs.Common.{◌≡◌, ℕ, ◌<◌, ◌≤◌, Some, ◌⊎◌}
use Rattle.std.specs.Prelude.{slice_get}
use Rattle.lin_object.specs.declared.op.Op.{Op}
use Rattle.lin_object.specs.declared.reply.Reply.{Reply}
use Rattle.lin_history.specs.declared.problems.problem.ProblemCall.{ProblemCall}
use Rattle.lin_history.specs.Problems.Lists.{In}
use Rattle.lin_core.specs.OneItem.{PutsNot}
use Rattle.lin_core.proofs.one_item.others_put_none.Given as goal

abbrev pub invariant-loop-c : goal.invariant-loop-c
invariant-loop-c g l = (k : ℕ) (x : ProblemCall Op Reply) → k < l.c → slice_get l.problem.calls k ≡ Some x → x.called ≤ l.event → In k l.kept ⊎ PutsNot l.item x
