-- Which operations look at the process, and which calls change nothing: a row for each operation of the kinds that does (this project's own).
use Rattle.std.specs.Prelude.{ℕ, pos, ◌||◌, Bool, true, false, not, Option, Some, None}
use Rattle.std.specs.Ordering.{int_eq}
use Rattle.lin_object.specs.declared.op.Op.{Op}
use Rattle.lin_object.specs.declared.op.Op.TheVariants.{Read, Cas, Add, Get, Dequeue, Pop, Insert, Remove, Contains, Lock, Unlock, TryLock, Lookup, Delete}
use Rattle.lin_object.specs.declared.reply.Reply.{Reply}
use Rattle.lin_object.specs.declared.reply.Reply.TheVariants.{Flag, Empty}

abbrev pub is_no : Reply → Bool
is_no (Flag false) = true
is_no reply = false

abbrev pub is_empty : Reply → Bool
is_empty Empty = true
is_empty reply = false

-- The reply is recorded, and is 'no'.
abbrev pub is_no_returned : Option (ℕ × Reply) → Bool
is_no_returned None = false
is_no_returned (Some r) = is_no r.1

-- The reply is recorded, and is that there was nothing.
abbrev pub is_empty_returned : Option (ℕ × Reply) → Bool
is_empty_returned None = false
is_empty_returned (Some r) = is_empty r.1

-- Whether a call with this operation, which has returned this or nothing, leaves each state as it is.
abbrev pub changes_nothing : Op → Option (ℕ × Reply) → Bool
changes_nothing Read returned = true
changes_nothing Get returned = true
changes_nothing (Contains v) returned = true
changes_nothing (Lookup k) returned = true
changes_nothing (Add d) returned = int_eq d (pos 0)
changes_nothing (Cas a b) returned = int_eq a b || is_no_returned returned
changes_nothing (Delete k) returned = is_no_returned returned
changes_nothing (Insert v) returned = is_no_returned returned
changes_nothing (Remove v) returned = is_no_returned returned
changes_nothing TryLock returned = is_no_returned returned
changes_nothing Dequeue returned = is_empty_returned returned
changes_nothing Pop returned = is_empty_returned returned
changes_nothing op returned = false

-- The operation is one of a mutex.
abbrev pub is_of_mutex : Op → Bool
is_of_mutex Lock = true
is_of_mutex Unlock = true
is_of_mutex TryLock = true
is_of_mutex op = false

-- Whether a step of the operation with this reply, or any, may look at the process: those of a mutex do, but for a try_lock that
-- answered 'no'.
abbrev pub looks_at_process : Op → Option (ℕ × Reply) → Bool
looks_at_process TryLock returned = not (is_no_returned returned)
looks_at_process op returned = is_of_mutex op
