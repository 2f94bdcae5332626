-- Replies that an operation never gives (this project's own).
use Rattle.std.specs.Prelude.{◌≡◌, ℕ, Bool, true, false, not, Option, Some, None, List, slice_get}
use Rattle.lin_object.specs.declared.op.Op.{Op}
use Rattle.lin_object.specs.declared.op.Op.TheVariants.{Write, Read, Cas, Add, Get, Enqueue, Dequeue, Push, Pop, Insert, Remove, Contains, Lock, Unlock, TryLock, Put, Lookup, Delete}
use Rattle.lin_object.specs.declared.reply.Reply.{Reply}
use Rattle.lin_object.specs.declared.reply.Reply.TheVariants.{Okay, Int, Flag, Empty}
use Rattle.lin_object.specs.declared.state.ObjState.{ObjState}
use Rattle.lin_history.specs.declared.problems.problem.ProblemCall.{ProblemCall}
use Rattle.lin_history.specs.Problems.Problem.{Problem}
use Rattle.lin_core.specs.Cuts.{AreCut}

-- The reply is that something was done; 'yes' or 'no'; a number; or a number, or that there was none.
abbrev pub is_okay : Reply → Bool
is_okay Okay = true
is_okay reply = false

abbrev pub is_flag : Reply → Bool
is_flag (Flag b) = true
is_flag reply = false

abbrev pub is_number : Reply → Bool
is_number (Int v) = true
is_number reply = false

abbrev pub is_number_or_none : Reply → Bool
is_number_or_none (Int v) = true
is_number_or_none Empty = true
is_number_or_none reply = false

-- The operation gives such a reply in some state.
abbrev pub may_reply : Op → Reply → Bool
may_reply (Write v) reply = is_okay reply
may_reply Read reply = is_number reply
may_reply (Cas a b) reply = is_flag reply
may_reply (Add d) reply = is_okay reply
may_reply Get reply = is_number reply
may_reply (Enqueue v) reply = is_okay reply
may_reply Dequeue reply = is_number_or_none reply
may_reply (Push v) reply = is_okay reply
may_reply Pop reply = is_number_or_none reply
may_reply (Insert v) reply = is_flag reply
may_reply (Remove v) reply = is_flag reply
may_reply (Contains v) reply = is_flag reply
may_reply Lock reply = is_okay reply
may_reply Unlock reply = is_okay reply
may_reply TryLock reply = is_flag reply
may_reply (Put k v) reply = is_okay reply
may_reply (Lookup k) reply = is_number_or_none reply
may_reply (Delete k) reply = is_flag reply

-- It is recorded that it gave another.
abbrev pub gave_another : Op → Option (ℕ × Reply) → Bool
gave_another op None = false
gave_another op (Some recorded) = not (may_reply op recorded.1)

-- Calls, as they stood after the event, the first of which returned with a reply that its operation never gives. Whatever the other
-- calls are, there is no linearization then.
abbrev pub HaveOddReply : Problem ObjState Op Reply → ℕ → List ℕ → List (ProblemCall Op Reply) → Type 0
HaveOddReply p event kept calls = AreCut p event kept calls × ((x : ProblemCall Op Reply) × (slice_get calls 0 ≡ Some x) × (gave_another x.op x.returned ≡ true))
