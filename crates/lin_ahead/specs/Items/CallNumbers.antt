-- The two numbers of a call of a queue's problem, by what the calls tell of its item (this project's own).
use Rattle.std.specs.Prelude.{ℕ, ℤ, Option, Some, List, map, min, ◌&&◌, if◌then◌else◌}
use Rattle.lin_object.specs.declared.op.Op.{Op}
use Rattle.lin_object.specs.declared.op.Op.TheVariants.{Enqueue, Dequeue}
use Rattle.lin_object.specs.declared.reply.Reply.{Reply}
use Rattle.lin_object.specs.declared.reply.Reply.TheVariants.{Empty}
use Rattle.lin_history.specs.declared.problems.problem.ProblemCall.{ProblemCall}
use Rattle.lin_ahead.specs.declared.items.item_calls.ItemCalls.{ItemCalls}
use Rattle.lin_ahead.specs.declared.items.item_calls.TheConstants.{BEYOND}
use Rattle.lin_ahead.specs.Items.ItemCalls.{goes_in_once}

-- By an item: when a call that took it returned, where it goes in once; else beyond all events.
abbrev pub by_item : ItemCalls → ℕ
by_item told = if goes_in_once told.putters then told.returned else BEYOND

-- By an item: when the first call that may take it was called. A pending dequeue may, unless the item goes in once and is
-- known to be taken.
abbrev pub from_item : ItemCalls → ℕ → ℕ
from_item told pending = if goes_in_once told.putters && told.taken then told.called else min told.called pending

-- The event from which on a call is needed.
abbrev pub by_number : (ℤ → ItemCalls) → Op → Option (ℕ × Reply) → ℕ
by_number told (Enqueue v) returned = by_item (told v)
by_number told Dequeue (Some (number, Empty)) = number
by_number told op returned = BEYOND

-- The event up to which a call needs others.
abbrev pub from_number : (ℤ → ItemCalls) → ℕ → Op → ℕ
from_number told pending (Enqueue v) = from_item (told v) pending
from_number told pending op = 0

-- These numbers of each call.
abbrev pub by_row : (ℤ → ItemCalls) → List (ProblemCall Op Reply) → List ℕ
by_row told calls = map (λ c. by_number told c.op c.returned) calls

abbrev pub from_row : (ℤ → ItemCalls) → ℕ → List (ProblemCall Op Reply) → List ℕ
from_row told pending calls = map (λ c. from_number told pending c.op) calls
