use Rattle.std.proofs.Common.{◌≡◌, ℕ, ◌<◌, Some}
use Rattle.std.specs.Prelude.{IfSome, slice_get}
use Rattle.std.specs.Ordering.{int_eq}
use Rattle.indexmap.specs.IndexMap.{get}
use Rattle.lin_object.specs.declared.op.Op.{Op}
use Rattle.lin_object.specs.declared.reply.Reply.{Reply}
use Rattle.lin_history.specs.declared.problems.problem.ProblemCall.{ProblemCall}
use Rattle.lin_lost.specs.Counts.{count_in, item_put}
use Rattle.lin_lost.specs.Lost.{IsTakenAsOften}
use Rattle.lin_lost.proofs.rest.are_taken_as_often.Given as goal

-- the items of the calls so far are
abbrev pub invariant-loop-call : goal.invariant-loop-call
invariant-loop-call l = (c : ℕ) (x : ProblemCall Op Reply) → c < l.call-index → slice_get l.calls c ≡ Some x → IfSome (item_put x.op) (IsTakenAsOften (count_in (get int_eq l.puts)) (count_in (get int_eq l.takes)))
