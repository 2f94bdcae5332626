-- How often an item went in and came out by an event, of items of a queue that repeat (this project's own).
use Rattle.std.specs.Prelude.{◌≡◌, ℕ, ◌+◌, ◌<◌, ◌≤◌, ℤ, Bool, true, false, ◌&&◌, Option, Some, None, List, [], ◌∷◌, ◌⊎◌, slice_get, nat_le, if◌then◌else◌}
use Rattle.std.specs.Ordering.{int_eq}
use Rattle.lin_object.specs.declared.op.Op.{Op}
use Rattle.lin_object.specs.declared.op.Op.TheVariants.{Enqueue, Dequeue}
use Rattle.lin_object.specs.declared.reply.Reply.{Reply}
use Rattle.lin_object.specs.declared.reply.Reply.TheVariants.{Int, Empty}
use Rattle.lin_history.specs.declared.problems.problem.ProblemCall.{ProblemCall}
use Rattle.lin_object.specs.declared.state.ObjState.{ObjState}
use Rattle.lin_history.specs.Problems.Problem.{Problem}
use Rattle.lin_history.specs.Problems.Continuations.{has}
use Rattle.lin_laws.specs.Items.{Puts}
use Rattle.lin_ahead.specs.declared.queues.item_rows.ItemRow.{ItemRow}
use Rattle.lin_laws.specs.Counting.{how_many}

-- The call puts the item in.
abbrev pub puts_it : ℤ → Op → Bool
puts_it v (Enqueue w) = int_eq v w
puts_it v op = false

-- The call may take the item: it is a dequeue that is pending or returned with it.
abbrev pub may_take : ℤ → Op → Option (ℕ × Reply) → Bool
may_take v Dequeue None = true
may_take v Dequeue (Some (number, Int w)) = int_eq v w
may_take v op returned = false

-- The call concerns the item: it puts it in, or may take it.
abbrev pub concerns : ℤ → Op → Option (ℕ × Reply) → Bool
concerns v (Enqueue w) returned = int_eq v w
concerns v Dequeue None = true
concerns v Dequeue (Some (number, Int w)) = int_eq v w
concerns v op returned = false

-- The same of a call, if there is one.
abbrev pub concerns_at : ℤ → Option (ProblemCall Op Reply) → Bool
concerns_at v None = false
concerns_at v (Some c) = concerns v c.op c.returned

-- It is a dequeue that is pending.
abbrev pub is_open_taker : Op → Option (ℕ × Reply) → Bool
is_open_taker Dequeue None = true
is_open_taker op returned = false

-- The numbers of the calls that do, where the first has the number n.
abbrev pub calls_on : ℤ → ℕ → List (ProblemCall Op Reply) → List ℕ
calls_on v n [] = []
calls_on v n (c ∷ cs) = if concerns v c.op c.returned then n ∷ calls_on v (n + 1) cs else calls_on v (n + 1) cs

-- The call, if there is one, puts the item in.
abbrev pub put_at : ℤ → Option (ProblemCall Op Reply) → Bool
put_at v None = false
put_at v (Some c) = puts_it v c.op

-- The call puts the item in, and was called at this event or before.
abbrev pub put_by : ℤ → ℕ → Option (ProblemCall Op Reply) → Bool
put_by v event None = false
put_by v event (Some c) = puts_it v c.op && nat_le c.called event

-- The call may take the item, and was called at this event or before.
abbrev pub taker_at : ℤ → ℕ → Option (ProblemCall Op Reply) → Bool
taker_at v event None = false
taker_at v event (Some c) = may_take v c.op c.returned && nat_le c.called event

-- The call returned with the item at this event or before.
abbrev pub took_by : ℤ → ℕ → Op → Option (ℕ × Reply) → Bool
took_by v event Dequeue (Some (number, Int w)) = int_eq v w && nat_le number event
took_by v event op returned = false

-- The call was called and returned with the item by this event.
abbrev pub taken_at : ℤ → ℕ → Option (ProblemCall Op Reply) → Bool
taken_at v event None = false
taken_at v event (Some c) = took_by v event c.op c.returned && nat_le c.called event

-- How many of these calls put the item in and are in the set, may take it and were called by the event, returned with it by then.
abbrev pub lifted_puts : List (ProblemCall Op Reply) → List Bool → ℤ → List ℕ → ℕ
lifted_puts calls set v ds = how_many (λ d. has set d && put_at v (slice_get calls d)) ds

abbrev pub takers_by : List (ProblemCall Op Reply) → ℤ → ℕ → List ℕ → ℕ
takers_by calls v event ds = how_many (λ d. taker_at v event (slice_get calls d)) ds

abbrev pub taken_by : List (ProblemCall Op Reply) → ℤ → ℕ → List ℕ → ℕ
taken_by calls v event ds = how_many (λ d. taken_at v event (slice_get calls d)) ds

-- How many of these calls put the item in and were called by the event.
abbrev pub called_puts : List (ProblemCall Op Reply) → ℤ → ℕ → List ℕ → ℕ
called_puts calls v event ds = how_many (λ d. put_by v event (slice_get calls d)) ds

-- By some event more calls returned with an item than enqueues of it were called.
abbrev pub LacksEnqueues : List (ProblemCall Op Reply) → Type 0
LacksEnqueues calls = (v : ℤ) × ((event : ℕ) × (called_puts calls v event (calls_on v 0 calls) < taken_by calls v event (calls_on v 0 calls)))

-- The call, which the set lacks, found the queue empty and returned at this event or before.
abbrev pub FoundEmptyBy : List (ProblemCall Op Reply) → List Bool → ℕ → ℕ → Type 0
FoundEmptyBy calls set event e = (has set e ≡ false) × ((x : ProblemCall Op Reply) × (slice_get calls e ≡ Some x) × (x.op ≡ Dequeue)
    × ((n : ℕ) × (x.returned ≡ Some (n, Empty)) × (n ≤ event)))

-- By the event what lies in the queue was out, and what is put in next: more calls returned with an item by then than enqueues of it
-- are in the set, or a call that the set lacks found the queue empty.
abbrev pub IsOutBy : List (ProblemCall Op Reply) → List Bool → ℕ → Type 0
IsOutBy calls set event =
    ((w : ℤ) × (lifted_puts calls set w (calls_on w 0 calls) < taken_by calls w event (calls_on w 0 calls)))
    ⊎ ((e : ℕ) × FoundEmptyBy calls set event e)

-- An enqueue of the item made next comes out too early: by some such event no more calls that may take the item were called than
-- enqueues of it are in the set.
abbrev pub IsTooEarly : List (ProblemCall Op Reply) → List Bool → ℤ → Type 0
IsTooEarly calls set v = (event : ℕ) × (takers_by calls v event (calls_on v 0 calls) ≤ lifted_puts calls set v (calls_on v 0 calls)) × IsOutBy calls set event

-- The call is such an enqueue.
abbrev pub ComesTooEarly : Problem ObjState Op Reply → List Bool → ℕ → Type 0
ComesTooEarly p set b = (v : ℤ) × Puts p b v × IsTooEarly p.calls set v

-- The row has all the calls that concern its item.
abbrev pub IsItemRow : List (ProblemCall Op Reply) → ItemRow → Type 0
IsItemRow calls row = row.calls.items ≡ calls_on row.item 0 calls

-- Each row is such a one.
abbrev pub AreItemRows : List (ProblemCall Op Reply) → List ItemRow → Type 0
AreItemRows calls rows = (i : ℕ) (row : ItemRow) → slice_get rows i ≡ Some row → IsItemRow calls row
