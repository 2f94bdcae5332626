-- That the items of a core were out at its first call.
use Rattle.std.proofs.Common.{◌≡◌, ◌++◌, ℕ, Bool, true, Option, Some, List, codes, refl}
use Rattle.std.specs.Fmt.{decimal}
use Rattle.lin_object.specs.declared.op.Op.{Op}
use Rattle.lin_object.specs.declared.reply.Reply.{Reply}
use Rattle.lin_history.specs.declared.problems.problem.ProblemCall.{ProblemCall}
use Rattle.lin_explain.specs.TouchingText.{line_of}
use Rattle.lin_explain.specs.LastLine.{before_text}

pub before_shown : (lines : List ℕ) (b : Bool) (o : Option (ProblemCall Op Reply)) (first : ProblemCall Op Reply) (line : ℕ) → b ≡ true → o ≡ Some first → line ≡ line_of lines first.called
    → codes ", and before line " ++ decimal line ++ codes " each was taken as often as it was put\n" ≡ before_text lines b o
before_shown lines b o first line e f g = rw (e, f, g) refl
