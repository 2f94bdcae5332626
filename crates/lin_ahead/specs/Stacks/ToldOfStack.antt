-- What is told ahead of a stack's problem, by reading its calls as those on a queue (this project's own).
use Rattle.std.specs.Prelude.{◌≡◌, ℕ, ℤ, Bool, true, false, Option, Some, List, map, length, slice_get}
use Rattle.lin_object.specs.declared.op.Op.{Op}
use Rattle.lin_object.specs.declared.op.Op.TheVariants.{Enqueue, Dequeue, Push, Pop}
use Rattle.lin_object.specs.declared.reply.Reply.{Reply}
use Rattle.lin_object.specs.declared.reply.Reply.TheVariants.{Int, Empty}
use Rattle.lin_object.specs.declared.state.ObjState.{ObjState}
use Rattle.lin_history.specs.declared.problems.problem.ProblemCall.{ProblemCall}
use Rattle.lin_history.specs.Problems.Problem.{Problem}
use Rattle.lin_ahead.specs.declared.stacks.rows.StackAhead.{StackAhead}
use Rattle.lin_ahead.specs.declared.items.late_pushes.LateRows.{LateRows}
use Rattle.lin_ahead.specs.Items.CallNumbers.{from_row}
use Rattle.lin_ahead.specs.Items.ItemCalls.{told, least_pending}
use Rattle.lin_ahead.specs.Stacks.Stack.{PushedOnce, OnlyPushes}
use Rattle.lin_laws.specs.Items.{Pushes, Popped}
use Rattle.lin_ahead.specs.Queues.ToldOfQueue.{once_row, takers_from}

-- The operation with those of a stack and those of a queue exchanged.
abbrev pub exchanged_op : Op → Op
exchanged_op (Push v) = Enqueue v
exchanged_op Pop = Dequeue
exchanged_op (Enqueue v) = Push v
exchanged_op Dequeue = Pop
exchanged_op op = op

-- The call with that operation.
abbrev pub exchanged_call : ProblemCall Op Reply → ProblemCall Op Reply
exchanged_call c = record { process = c.process; op = exchanged_op c.op; called = c.called; returned = c.returned }

-- The calls so.
abbrev pub exchanged_calls : List (ProblemCall Op Reply) → List (ProblemCall Op Reply)
exchanged_calls calls = map exchanged_call calls

-- Whether each call on a stack returned with an item that goes on it once.
abbrev pub popped_once_row : List (ProblemCall Op Reply) → List Bool
popped_once_row calls = once_row (told (exchanged_calls calls)) (exchanged_calls calls)

-- The call returned as it found the stack empty.
abbrev pub found_empty : Op → Option (ℕ × Reply) → Bool
found_empty Pop (Some (number, Empty)) = true
found_empty op returned = false

-- Whether each call did.
abbrev pub found_empty_row : List (ProblemCall Op Reply) → List Bool
found_empty_row calls = map (λ c. found_empty c.op c.returned) calls

-- A call of the list pushes this item.
abbrev pub PushesIn : List (ProblemCall Op Reply) → ℕ → ℤ → Type 0
PushesIn calls c v = (x : ProblemCall Op Reply) × (slice_get calls c ≡ Some x) × (x.op ≡ Push v)

-- Call z returned with the item of push a, which no other call of the list pushes.
abbrev pub IsPopperIn : List (ProblemCall Op Reply) → ℕ → ℕ → Type 0
IsPopperIn calls a z = (v : ℤ) × PushesIn calls a v × ((d : ℕ) → PushesIn calls d v → d ≡ a) × ((x : ProblemCall Op Reply) × (slice_get calls z ≡ Some x) × (x.op ≡ Pop) × ((n : ℕ) × (x.returned ≡ Some (n, Int v))))

-- The row names such calls of pushes.
abbrev pub ArePoppers : List (ProblemCall Op Reply) → List (Option ℕ) → Type 0
ArePoppers calls row = (a z : ℕ) → slice_get row a ≡ Some (Some z) → IsPopperIn calls a z

-- What is known of the calls by which pushes are too late: the first event at which a call was called that may pop the item of a
-- push, as for a queue's; pops of items that are pushed once; and which calls found the stack empty.
pub record AreLateRows (calls : List (ProblemCall Op Reply)) (late : LateRows) : Type 0 where
  pub from : late.from.items ≡ from_row (told (exchanged_calls calls)) (least_pending (exchanged_calls calls)) (exchanged_calls calls)
  pub poppers : ArePoppers calls late.poppers.items
  pub found_empty : late.found_empty.items ≡ found_empty_row calls

-- It is told which calls are owed their replies, by which numbers pushes are too late, and which pops are pending.
pub record IsToldOfStack (p : Problem ObjState Op Reply) (ahead : StackAhead) : Type 0 where
  -- They popped an item that no two calls push, and all that popped one which just one call pushes are.
  pub owed : (c : ℕ) → slice_get ahead.items.owed.items c ≡ Some true → (v : ℤ) × Popped p c v × PushedOnce p v
  pub each_owed : length ahead.items.owed.items ≡ length p.calls
  pub every_owed : (a c : ℕ) (v : ℤ) → Pushes p a v → OnlyPushes p a v → Popped p c v → slice_get ahead.items.owed.items c ≡ Some true
  pub takers : ahead.items.takers.items ≡ takers_from 0 (exchanged_calls p.calls)
  pub late : AreLateRows p.calls ahead.late
