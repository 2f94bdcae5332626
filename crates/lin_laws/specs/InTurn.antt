-- Problems in which the calls of each process come one after another (this project's own).
use Rattle.std.specs.Prelude.{◌≡◌, ℕ, ◌<◌, Some, slice_get}
use Rattle.lin_object.specs.declared.op.Op.{Op}
use Rattle.lin_object.specs.declared.reply.Reply.{Reply}
use Rattle.lin_object.specs.declared.state.ObjState.{ObjState}
use Rattle.lin_history.specs.declared.problems.problem.ProblemCall.{ProblemCall}
use Rattle.lin_history.specs.Problems.Problem.{Problem}
use Rattle.lin_history.specs.Problems.Precedence.{Before}

-- The calls of each process come one after another.
abbrev pub AreInTurn : Problem ObjState Op Reply → Type 0
AreInTurn p = (a b : ℕ) (x y : ProblemCall Op Reply) → a < b → slice_get p.calls a ≡ Some x → slice_get p.calls b ≡ Some y → x.process ≡ y.process → Before p a b
