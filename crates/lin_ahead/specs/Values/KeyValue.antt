-- Maps all of whose calls are on one key, as registers that hold the key's value (this project's own).
use Rattle.std.specs.Prelude.{◌&&◌, ℕ, ℤ, Bool, true, false, not, map, Option, Some, None, List, slice_get}
use Rattle.std.specs.Ordering.{int_eq}
use Rattle.std.specs.List.{list_all}
use Rattle.lin_object.specs.declared.op.Op.{Op}
use Rattle.lin_object.specs.declared.op.Op.TheVariants.{Write, Read, Put, Lookup, Delete}
use Rattle.lin_object.specs.declared.reply.Reply.{Reply}
use Rattle.lin_object.specs.declared.reply.Reply.TheVariants.{Okay, Int, Flag, Empty}
use Rattle.lin_object.specs.declared.state.ObjState.{ObjState}
use Rattle.lin_object.specs.declared.state.ObjState.TheVariants.{Register}
use Rattle.lin_history.specs.declared.problems.problem.ProblemCall.{ProblemCall}
use Rattle.lin_history.specs.Problems.ProblemParts.{ProblemParts}
use Rattle.lin_ahead.specs.declared.values.key_value.TheConstants.{NOTHING}

-- The key of an operation of a map.
abbrev pub key_of : Op → Option ℤ
key_of (Put k v) = Some k
key_of (Lookup k) = Some k
key_of (Delete k) = Some k
key_of op = None

-- The key of a call, where there is one.
abbrev pub key_at : Option (ProblemCall Op Reply) → Option ℤ
key_at None = None
key_at (Some c) = key_of c.op

-- The operation is one of a map on the key, and does not give it the value that stands for none.
abbrev pub is_on : ℤ → Op → Bool
is_on key (Put k v) = int_eq k key && not (int_eq v NOTHING)
is_on key (Lookup k) = int_eq k key
is_on key (Delete k) = int_eq k key
is_on key op = false

-- Each of these calls is.
abbrev pub are_on : ℤ → List (ProblemCall Op Reply) → Bool
are_on key calls = list_all (λ (c : ProblemCall Op Reply). is_on key c.op) calls

-- There is a key, and these calls are on it.
abbrev pub on_this_key : Option ℤ → List (ProblemCall Op Reply) → Bool
on_this_key None calls = false
on_this_key (Some key) calls = are_on key calls

-- The calls are on one key, that of the first.
abbrev pub of_one_key : List (ProblemCall Op Reply) → Bool
of_one_key calls = on_this_key (key_at (slice_get calls 0)) calls

-- What an operation does to its key's value: a put writes it, a get reads it, a delete writes that there is none; but one that
-- told that there was none reads just that.
abbrev pub op_on_value : Op → Option (ℕ × Reply) → Op
op_on_value (Put k v) returned = Write v
op_on_value (Lookup k) returned = Read
op_on_value (Delete k) (Some (number, Flag false)) = Read
op_on_value (Delete k) returned = Write NOTHING
op_on_value op returned = op

-- What such an operation of a register replies.
abbrev pub reply_on_value : Op → Reply → Reply
reply_on_value (Lookup k) Empty = Int NOTHING
reply_on_value (Delete k) (Flag true) = Okay
reply_on_value (Delete k) (Flag false) = Int NOTHING
reply_on_value op reply = reply

-- Its return.
abbrev pub returned_on_value : Op → Option (ℕ × Reply) → Option (ℕ × Reply)
returned_on_value op None = None
returned_on_value op (Some r) = Some (r.0, reply_on_value op r.1)

-- A call on the key, as one of a register that holds the key's value.
abbrev pub call_on_value : ProblemCall Op Reply → ProblemCall Op Reply
call_on_value c = record { process = c.process; op = op_on_value c.op c.returned; called = c.called; returned = returned_on_value c.op c.returned }

-- The problem of an empty map, as that of a register.
abbrev pub on_value : {Object : Type 0} → ProblemParts Object ObjState Op Reply → ProblemParts Object ObjState Op Reply
on_value p = record { object = p.object; start = Register NOTHING; calls = map call_on_value p.calls }
