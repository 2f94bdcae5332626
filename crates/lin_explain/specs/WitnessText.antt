-- What is shown that lets a reader see that an object has no order (this project's own).
use Rattle.std.specs.Prelude.{ℕ, ◌==◌, ◌++◌, Option, List, [], length, if◌then◌else◌}
use Rattle.lin_object.specs.declared.op.Op.{Op}
use Rattle.lin_object.specs.declared.reply.Reply.{Reply}
use Rattle.lin_history.specs.declared.problems.problem.ProblemCall.{ProblemCall}
use Rattle.lin_explain.specs.declared.witness_text.Witness.{Witness}
use Rattle.lin_explain.specs.declared.witness_text.Witness.TheVariants.{Nothing, Core, Sums}
use Rattle.lin_explain.specs.declared.core_text.CoreCall.{CoreCall}
use Rattle.lin_explain.specs.CoreText.{core_key, core_head, whatever_text, core_lines}
use Rattle.lin_explain.specs.LastLine.{others_line_since}
use Rattle.lin_explain.specs.SumsText.{sums_text}

-- The calls with the lines above and below them; nothing where there are none.
abbrev pub core_text : List ℕ → List (ProblemCall Op Reply) → List ℕ → Option ℕ → List CoreCall → List ℕ
core_text name calls lines from core =
    if length core == 0 then [] else core_head (length core) (core_key calls core) ++ whatever_text name lines (core_key calls core) from ++ core_lines name calls lines core ++ others_line_since calls lines from core

-- The lines of a core, or of a get for whose reply the adds leave no room; nothing where neither is known.
abbrev pub witness_text : List ℕ → List (ProblemCall Op Reply) → List ℕ → Witness → List ℕ
witness_text name calls lines Nothing = []
witness_text name calls lines (Core from core) = core_text name calls lines from core.items
witness_text name calls lines (Sums shown) = sums_text name calls lines shown
