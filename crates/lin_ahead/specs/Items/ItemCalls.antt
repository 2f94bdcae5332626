-- What the calls on a queue tell of one item (this project's own): how many put it in, and when it was taken out.
use Rattle.std.specs.Prelude.{ℕ, ℤ, Bool, true, false, Option, Some, None, List, [], ◌∷◌, min, if◌then◌else◌}
use Rattle.std.specs.Ordering.{int_eq}
use Rattle.std.specs.Option.{unwrap_or}
use Rattle.lin_object.specs.declared.op.Op.{Op}
use Rattle.lin_object.specs.declared.op.Op.TheVariants.{Enqueue, Dequeue}
use Rattle.lin_object.specs.declared.reply.Reply.{Reply}
use Rattle.lin_object.specs.declared.reply.Reply.TheVariants.{Int}
use Rattle.lin_history.specs.declared.problems.problem.ProblemCall.{ProblemCall}
use Rattle.lin_ahead.specs.declared.items.item_calls.ItemCalls.{ItemCalls}
use Rattle.lin_ahead.specs.declared.items.item_calls.Callers.{Callers}
use Rattle.lin_ahead.specs.declared.items.item_calls.Callers.TheVariants.{Nobody, One, Several}
use Rattle.lin_ahead.specs.declared.items.item_calls.TheConstants.{BEYOND}

-- One call more puts the item in.
abbrev pub one_more : Callers → Callers
one_more Nobody = One
one_more One = Several
one_more Several = Several

-- One call puts the item in, and no other.
abbrev pub goes_in_once : Callers → Bool
goes_in_once Nobody = false
goes_in_once One = true
goes_in_once Several = false

-- The item that a call puts in, or took.
abbrev pub item_of : Op → Option (ℕ × Reply) → Option ℤ
item_of (Enqueue v) returned = Some v
item_of Dequeue (Some (number, Int v)) = Some v
item_of op returned = None

-- It is this item.
abbrev pub is_of : Option ℤ → ℤ → Bool
is_of None v = false
is_of (Some w) v = int_eq w v

-- What no call shows.
abbrev pub nothing_told : ItemCalls
nothing_told = record { putters = Nobody; taken = false; returned = BEYOND; called = BEYOND }

-- With a call more, which puts the item in or took it.
abbrev pub with_call : ItemCalls → ℕ → Op → Option (ℕ × Reply) → ItemCalls
with_call told called (Enqueue v) returned = record { putters = one_more told.putters; taken = told.taken; returned = told.returned; called = told.called }
with_call told called Dequeue (Some (number, reply)) = record { putters = told.putters; taken = true; returned = min told.returned number; called = min told.called called }
with_call told called op returned = told

-- What is told of the item with a call more.
abbrev pub told_next : ItemCalls → ProblemCall Op Reply → ℤ → ItemCalls
told_next told c v = if is_of (item_of c.op c.returned) v then with_call told c.called c.op c.returned else told

-- What is told of the item with these calls more.
abbrev pub told_from : ItemCalls → List (ProblemCall Op Reply) → ℤ → ItemCalls
told_from told [] v = told
told_from told (c ∷ cs) v = told_from (told_next told c v) cs v

-- What the calls tell of the item.
abbrev pub told : List (ProblemCall Op Reply) → ℤ → ItemCalls
told calls v = told_from nothing_told calls v

-- What a map says of the item; what no call shows, where the map has nothing of it.
abbrev pub told_in : (ℤ → Option ItemCalls) → ℤ → ItemCalls
told_in items v = unwrap_or (items v) nothing_told

-- The call event of a dequeue that is pending; beyond all events for another call.
abbrev pub pending_at : ℕ → Op → Option (ℕ × Reply) → ℕ
pending_at called Dequeue None = called
pending_at called op returned = BEYOND

-- The least of the number and of the call events of the dequeues that are pending.
abbrev pub pending_from : ℕ → List (ProblemCall Op Reply) → ℕ
pending_from least [] = least
pending_from least (c ∷ cs) = pending_from (min least (pending_at c.called c.op c.returned)) cs

-- The least call event of the dequeues that are pending; beyond all events where there is none.
abbrev pub least_pending : List (ProblemCall Op Reply) → ℕ
least_pending calls = pending_from BEYOND calls
