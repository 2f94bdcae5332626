-- Tables of names, and operations made of their arguments (this project's own).
use Rattle.std.specs.Prelude.{ℕ, ℤ, List, [], ◌∷◌, bytes_eq, Option, Some, None, ok_or, Result, Err, if◌then◌else◌}
use Rattle.lin_object.specs.declared.op.Op.{Op}
use Rattle.lin_object.specs.declared.op.OpFault.{OpFault}
use Rattle.lin_object.specs.declared.op.OpFault.TheVariants.{BadOp, BadArgs}

-- What is beside the word in a table of words; none where the table has no such word.
abbrev pub beside : {A : Type 0} → List (List ℕ × A) → List ℕ → Option A
beside [] word = None
beside (row ∷ rows) word = if bytes_eq word row.0 then Some row.1 else beside rows word

-- Makes an operation of its arguments; none at a wrong number of them.
abbrev pub OpMaker : Type 0
OpMaker = List ℤ → Option Op

-- An operation of no argument.
abbrev pub of_none : Op → OpMaker
of_none op [] = Some op
of_none op (x ∷ xs) = None

-- An operation of one argument.
abbrev pub of_one : (ℤ → Op) → OpMaker
of_one make [] = None
of_one make (v ∷ []) = Some (make v)
of_one make (v ∷ x ∷ xs) = None

-- An operation of two arguments.
abbrev pub of_two : (ℤ → ℤ → Op) → OpMaker
of_two make [] = None
of_two make (a ∷ []) = None
of_two make (a ∷ b ∷ []) = Some (make a b)
of_two make (a ∷ b ∷ x ∷ xs) = None

-- What a row of the operations makes of the arguments; none where there is no such row.
abbrev pub made_of : Option OpMaker → OpMaker
made_of None args = None
made_of (Some make) args = make args

-- A name without a row is no operation; a row that makes nothing of the arguments wants another number of them.
abbrev pub op_made : Option OpMaker → List ℤ → Result Op OpFault
op_made None args = Err BadOp
op_made (Some make) args = ok_or (make args) BadArgs
