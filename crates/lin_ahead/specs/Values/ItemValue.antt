-- Sets all of whose calls are on one item, as registers that hold one value while the item is in, and another one while it is not (this project's own).
use Rattle.std.specs.Prelude.{ℕ, ℤ, Bool, true, false, map, Option, Some, None, List, slice_get}
use Rattle.std.specs.Ordering.{int_eq}
use Rattle.std.specs.List.{list_all}
use Rattle.lin_object.specs.declared.op.Op.{Op}
use Rattle.lin_object.specs.declared.op.Op.TheVariants.{Write, Read, Cas, Insert, Remove, Contains}
use Rattle.lin_object.specs.declared.reply.Reply.{Reply}
use Rattle.lin_object.specs.declared.reply.Reply.TheVariants.{Int, Flag}
use Rattle.lin_object.specs.declared.state.ObjState.{ObjState}
use Rattle.lin_object.specs.declared.state.ObjState.TheVariants.{Register}
use Rattle.lin_history.specs.declared.problems.problem.ProblemCall.{ProblemCall}
use Rattle.lin_history.specs.Problems.ProblemParts.{ProblemParts}
use Rattle.lin_ahead.specs.declared.values.item_value.TheConstants.{ITEM_IN, ITEM_OUT}

-- The item of an operation of a set.
abbrev pub item_of : Op → Option ℤ
item_of (Insert v) = Some v
item_of (Remove v) = Some v
item_of (Contains v) = Some v
item_of op = None

-- The item of a call, where there is one.
abbrev pub item_at : Option (ProblemCall Op Reply) → Option ℤ
item_at None = None
item_at (Some c) = item_of c.op

-- The operation is one of a set on the item.
abbrev pub is_on_item : ℤ → Op → Bool
is_on_item item (Insert v) = int_eq v item
is_on_item item (Remove v) = int_eq v item
is_on_item item (Contains v) = int_eq v item
is_on_item item op = false

-- Each of these calls is.
abbrev pub are_on_item : ℤ → List (ProblemCall Op Reply) → Bool
are_on_item item calls = list_all (λ (c : ProblemCall Op Reply). is_on_item item c.op) calls

-- There is an item, and these calls are on it.
abbrev pub on_this_item : Option ℤ → List (ProblemCall Op Reply) → Bool
on_this_item None calls = false
on_this_item (Some item) calls = are_on_item item calls

-- The calls are on one item, that of the first.
abbrev pub of_one_item : List (ProblemCall Op Reply) → Bool
of_one_item calls = on_this_item (item_at (slice_get calls 0)) calls

-- What the register holds, where the item is in or is not.
abbrev pub value_if_in : Bool → ℤ
value_if_in true = ITEM_IN
value_if_in false = ITEM_OUT

-- What an operation does to the register: an insert or a remove that told that it changed the set is a cas, and one that told that
-- it did not is a read, as a contains is; a pending one is a write. With a reply that none of them gives it stays what it is.
abbrev pub op_on_item : Op → Option (ℕ × Reply) → Op
op_on_item (Insert v) None = Write ITEM_IN
op_on_item (Insert v) (Some (number, Flag true)) = Cas ITEM_OUT ITEM_IN
op_on_item (Insert v) (Some (number, Flag false)) = Read
op_on_item (Remove v) None = Write ITEM_OUT
op_on_item (Remove v) (Some (number, Flag true)) = Cas ITEM_IN ITEM_OUT
op_on_item (Remove v) (Some (number, Flag false)) = Read
op_on_item (Contains v) None = Read
op_on_item (Contains v) (Some (number, Flag b)) = Read
op_on_item op returned = op

-- What such an operation of a register replies.
abbrev pub reply_on_item : Op → Reply → Reply
reply_on_item (Insert v) (Flag false) = Int ITEM_IN
reply_on_item (Remove v) (Flag false) = Int ITEM_OUT
reply_on_item (Contains v) (Flag b) = Int (value_if_in b)
reply_on_item op reply = reply

-- Its return.
abbrev pub returned_on_item : Op → Option (ℕ × Reply) → Option (ℕ × Reply)
returned_on_item op None = None
returned_on_item op (Some r) = Some (r.0, reply_on_item op r.1)

-- A call on the item, as one of a register that tells whether the item is in.
abbrev pub call_on_item : ProblemCall Op Reply → ProblemCall Op Reply
call_on_item c = record { process = c.process; op = op_on_item c.op c.returned; called = c.called; returned = returned_on_item c.op c.returned }

-- The problem of an empty set, as that of a register.
abbrev pub on_item : {Object : Type 0} → ProblemParts Object ObjState Op Reply → ProblemParts Object ObjState Op Reply
on_item p = record { object = p.object; start = Register ITEM_OUT; calls = map call_on_item p.calls }
