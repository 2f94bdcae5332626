-- How a call is shown (this project's own).
use Rattle.std.specs.Prelude.{ℕ, ◌++◌, List, codes}
use Rattle.std.specs.Fmt.{decimal}
use Rattle.lin_object.specs.declared.op.Op.{Op}
use Rattle.lin_object.specs.PrintedForms.{op_text}

-- Its process, the name of its object, and its operation.
abbrev pub call_text : ℕ → List ℕ → Op → List ℕ
call_text process name op = decimal process ++ codes " " ++ name ++ codes " " ++ op_text op
