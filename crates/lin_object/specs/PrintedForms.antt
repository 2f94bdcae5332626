-- How a report shows operations and replies (this project's own).
use Rattle.std.specs.Prelude.{ℕ, ◌++◌, List, [], codes, if◌then◌else◌}
use Rattle.std.specs.Fmt.{signed_decimal}
use Rattle.lin_object.specs.declared.op.Op.{Op}
use Rattle.lin_object.specs.declared.op.Op.TheVariants.{Write, Read, Cas, Add, Get, Enqueue, Dequeue, Push, Pop, Insert, Remove, Contains, Lock, Unlock, TryLock, Put, Lookup, Delete}
use Rattle.lin_object.specs.declared.reply.Reply.{Reply}
use Rattle.lin_object.specs.declared.reply.Reply.TheVariants.{Okay, Int, Flag, Empty}

-- The name of an operation.
abbrev pub op_name : Op → List ℕ
op_name (Write v) = codes "write"
op_name Read = codes "read"
op_name (Cas a b) = codes "cas"
op_name (Add d) = codes "add"
op_name Get = codes "get"
op_name (Enqueue v) = codes "enq"
op_name Dequeue = codes "deq"
op_name (Push v) = codes "push"
op_name Pop = codes "pop"
op_name (Insert v) = codes "add"
op_name (Remove v) = codes "remove"
op_name (Contains v) = codes "contains"
op_name Lock = codes "lock"
op_name Unlock = codes "unlock"
op_name TryLock = codes "try_lock"
op_name (Put k v) = codes "put"
op_name (Lookup k) = codes "get"
op_name (Delete k) = codes "delete"

-- The arguments of an operation, joined by commas.
abbrev pub op_arguments : Op → List ℕ
op_arguments (Write v) = signed_decimal v
op_arguments (Cas a b) = signed_decimal a ++ codes "," ++ signed_decimal b
op_arguments (Add d) = signed_decimal d
op_arguments (Enqueue v) = signed_decimal v
op_arguments (Push v) = signed_decimal v
op_arguments (Insert v) = signed_decimal v
op_arguments (Remove v) = signed_decimal v
op_arguments (Contains v) = signed_decimal v
op_arguments (Put k v) = signed_decimal k ++ codes "," ++ signed_decimal v
op_arguments (Lookup k) = signed_decimal k
op_arguments (Delete k) = signed_decimal k
op_arguments op = []

-- The operation's name, and its arguments in brackets.
abbrev pub op_text : Op → List ℕ
op_text op = op_name op ++ codes "(" ++ op_arguments op ++ codes ")"

-- `ok`, a decimal number, `true`, `false`, or `empty`.
abbrev pub reply_text : Reply → List ℕ
reply_text Okay = codes "ok"
reply_text (Int v) = signed_decimal v
reply_text (Flag flag) = if flag then codes "true" else codes "false"
reply_text Empty = codes "empty"
