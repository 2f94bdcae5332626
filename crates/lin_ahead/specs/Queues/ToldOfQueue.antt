-- What is told ahead of a queue's problem, of its calls by real time: which took an item that goes in once, when an item was taken, and which may take any (this project's own).
use Rattle.std.specs.Prelude.{◌≡◌, ℕ, ◌+◌, ◌<◌, ◌≤◌, ◌^◌, ℤ, Bool, true, false, Option, Some, None, List, [], ◌∷◌, map, length, slice_get, if◌then◌else◌}
use Rattle.lin_object.specs.declared.op.Op.{Op}
use Rattle.lin_object.specs.declared.op.Op.TheVariants.{Enqueue, Dequeue}
use Rattle.lin_object.specs.declared.reply.Reply.{Reply}
use Rattle.lin_object.specs.declared.reply.Reply.TheVariants.{Int, Empty}
use Rattle.lin_object.specs.declared.state.ObjState.{ObjState}
use Rattle.lin_history.specs.declared.problems.problem.ProblemCall.{ProblemCall}
use Rattle.lin_history.specs.Problems.Problem.{Problem}
use Rattle.lin_ahead.specs.declared.items.item_calls.ItemCalls.{ItemCalls}
use Rattle.lin_ahead.specs.declared.queues.rows.QueueAhead.{QueueAhead}
use Rattle.lin_ahead.specs.declared.items.late_pushes.LateRows.{LateRows}
use Rattle.lin_ahead.specs.Items.ItemCalls.{goes_in_once, told, least_pending}
use Rattle.lin_ahead.specs.Items.CallNumbers.{from_row}
use Rattle.lin_ahead.specs.Items.Numbers.{CalledFrom, AreNumbers}
use Rattle.lin_ahead.specs.Queues.Queue.{OnlyPuts}
use Rattle.lin_laws.specs.Items.{Puts, Took}

-- The call returned with an item that goes in once.
abbrev pub took_once : (ℤ → ItemCalls) → Op → Option (ℕ × Reply) → Bool
took_once told Dequeue (Some (number, Int v)) = goes_in_once (told v).putters
took_once told op returned = false

-- Whether each call did.
abbrev pub once_row : (ℤ → ItemCalls) → List (ProblemCall Op Reply) → List Bool
once_row told calls = map (λ c. took_once told c.op c.returned) calls

-- When the first call was called that returned with the item which this call puts in.
abbrev pub taken_number : (ℤ → ItemCalls) → Op → ℕ
taken_number told (Enqueue v) = (told v).called
taken_number told op = 0

-- That number of each call.
abbrev pub taken_row : (ℤ → ItemCalls) → List (ProblemCall Op Reply) → List ℕ
taken_row told calls = map (λ c. taken_number told c.op) calls

-- The call may take any item: it is a dequeue that is pending.
abbrev pub is_taker : Op → Option (ℕ × Reply) → Bool
is_taker Dequeue None = true
is_taker op returned = false

-- The numbers of such calls, where the first has the number n.
abbrev pub takers_from : ℕ → List (ProblemCall Op Reply) → List ℕ
takers_from n [] = []
takers_from n (c ∷ cs) = if is_taker c.op c.returned then n ∷ takers_from (n + 1) cs else takers_from (n + 1) cs

-- The call returned as it found the queue empty.
abbrev pub queue_empty : Op → Option (ℕ × Reply) → Bool
queue_empty Dequeue (Some (number, Empty)) = true
queue_empty op returned = false

-- Whether each call did.
abbrev pub queue_empty_row : List (ProblemCall Op Reply) → List Bool
queue_empty_row calls = map (λ c. queue_empty c.op c.returned) calls

-- What is known of the calls by which enqueues are too late: the first event at which a call was called that may take the item of
-- an enqueue, and which calls found the queue empty.
pub record AreLateEnqueues (calls : List (ProblemCall Op Reply)) (late : LateRows) : Type 0 where
  pub from : late.from.items ≡ from_row (told calls) (least_pending calls) calls
  pub poppers : late.poppers.items ≡ []
  pub found_empty : late.found_empty.items ≡ queue_empty_row calls

module _ (p : Problem ObjState Op Reply) where
  -- No two calls put the item in.
  abbrev pub PutOnce : ℤ → Type 0
  PutOnce v = (a b : ℕ) → Puts p a v → Puts p b v → a ≡ b

  -- Every call that returned with the item was called at this event or later.
  abbrev pub IsBelowTakers : ℕ → ℤ → Type 0
  IsBelowTakers n v = (n ≤ 2 ^ 32) × ((j : ℕ) → Took p j v → CalledFrom p n j)

  -- The call is a dequeue that is pending.
  abbrev pub IsTaker : ℕ → Type 0
  IsTaker c = (x : ProblemCall Op Reply) × (slice_get p.calls c ≡ Some x) × (x.op ≡ Dequeue) × (x.returned ≡ None)

-- All is told that the calls tell by real time, of each call.
pub record IsToldOfQueue (p : Problem ObjState Op Reply) (ahead : QueueAhead) : Type 0 where
  pub numbers : AreNumbers p ahead.needs
  -- The calls that are owed their replies took an item that no two calls put in, and all that took one which just one call puts in are.
  pub owed : (c : ℕ) → slice_get ahead.items.owed.items c ≡ Some true → (v : ℤ) × Took p c v × PutOnce p v
  pub each_owed : length ahead.items.owed.items ≡ length p.calls
  pub every_owed : (a c : ℕ) (v : ℤ) → Puts p a v → OnlyPuts p a v → Took p c v → slice_get ahead.items.owed.items c ≡ Some true
  pub each_taken : length ahead.taken.items ≡ length p.calls
  -- Of the numbers that are below all takers of the item that a call puts in, it has the greatest.
  pub taken : (b n : ℕ) (v : ℤ) → slice_get ahead.taken.items b ≡ Some n → Puts p b v → IsBelowTakers p n v × ((k : ℕ) → IsBelowTakers p k v → k ≤ n)
  -- The takers are the pending dequeues, each once, in rising order.
  pub takers : (i c : ℕ) → slice_get ahead.items.takers.items i ≡ Some c → IsTaker p c
  pub every_taker : (c : ℕ) → IsTaker p c → (i : ℕ) × (slice_get ahead.items.takers.items i ≡ Some c)
  pub rising_takers : (i j c d : ℕ) → slice_get ahead.items.takers.items i ≡ Some c → slice_get ahead.items.takers.items j ≡ Some d → i < j → c < d
  -- The numbers by which enqueues are too late are those of the calls.
  pub late : AreLateEnqueues p.calls ahead.late
