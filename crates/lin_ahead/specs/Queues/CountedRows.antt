-- The calls that concern an item, with their events, and how many of them are so (this project's own).
use Rattle.std.specs.Prelude.{◌≡◌, ℕ, ℤ, Bool, not, ◌&&◌, Option, Some, None, List, [], ◌∷◌, filter_map, slice_get, nat_le, if◌then◌else◌}
use Rattle.std.specs.Ordering.{int_eq}
use Rattle.lin_object.specs.declared.op.Op.{Op}
use Rattle.lin_object.specs.declared.op.Op.TheVariants.{Dequeue}
use Rattle.lin_object.specs.declared.reply.Reply.{Reply}
use Rattle.lin_object.specs.declared.reply.Reply.TheVariants.{Int}
use Rattle.lin_history.specs.declared.problems.problem.ProblemCall.{ProblemCall}
use Rattle.lin_history.specs.Problems.Continuations.{has}
use Rattle.lin_ahead.specs.declared.queues.counted_rows.Called.{Called}
use Rattle.lin_ahead.specs.declared.queues.counted_rows.Taken.{Taken}
use Rattle.lin_ahead.specs.declared.queues.counted_rows.CountedRow.{CountedRow}
use Rattle.lin_ahead.specs.Queues.Slots.{puts_it, may_take, calls_on}
use Rattle.lin_laws.specs.Counting.{counted}

-- The call of this number, if it puts the item in, and when it was called.
abbrev pub put_of : ℤ → ℕ → Option (ProblemCall Op Reply) → Option Called
put_of v d None = None
put_of v d (Some c) = if puts_it v c.op then Some (record { call = d; at = c.called }) else None

-- The same of a call that may take the item.
abbrev pub taker_of : ℤ → ℕ → Option (ProblemCall Op Reply) → Option Called
taker_of v d None = None
taker_of v d (Some c) = if may_take v c.op c.returned then Some (record { call = d; at = c.called }) else None

-- When the call returned with the item, if it did.
abbrev pub took_at : ℤ → Op → Option (ℕ × Reply) → Option ℕ
took_at v Dequeue (Some (number, Int w)) = if int_eq v w then Some number else None
took_at v op returned = None

-- The call of this number that was called and returned at these events, if there is the second.
abbrev pub taken_when : ℕ → ℕ → Option ℕ → Option Taken
taken_when d called None = None
taken_when d called (Some by) = Some (record { call = d; called = called; by = by })

-- The call of this number, if it returned with the item, and when it was called and returned.
abbrev pub taken_of : ℤ → ℕ → Option (ProblemCall Op Reply) → Option Taken
taken_of v d None = None
taken_of v d (Some c) = taken_when d c.called (took_at v c.op c.returned)

-- Those of these calls that put the item in, may take it, or returned with it.
abbrev pub puts_among : List (ProblemCall Op Reply) → ℤ → List ℕ → List Called
puts_among calls v ds = filter_map (λ d. put_of v d (slice_get calls d)) ds

abbrev pub takers_among : List (ProblemCall Op Reply) → ℤ → List ℕ → List Called
takers_among calls v ds = filter_map (λ d. taker_of v d (slice_get calls d)) ds

abbrev pub taken_among : List (ProblemCall Op Reply) → ℤ → List ℕ → List Taken
taken_among calls v ds = filter_map (λ d. taken_of v d (slice_get calls d)) ds

-- The row has all the calls that concern its item.
pub record IsCountedRow (calls : List (ProblemCall Op Reply)) (row : CountedRow) : Type 0 where
  pub puts : row.puts.items ≡ puts_among calls row.item (calls_on row.item 0 calls)
  pub takers : row.takers.items ≡ takers_among calls row.item (calls_on row.item 0 calls)
  pub taken : row.taken.items ≡ taken_among calls row.item (calls_on row.item 0 calls)

-- Each row is such a one.
abbrev pub AreCountedRows : List (ProblemCall Op Reply) → List CountedRow → Type 0
AreCountedRows calls rows = (i : ℕ) (row : CountedRow) → slice_get rows i ≡ Some row → IsCountedRow calls row

-- How many of them are so.
abbrev pub many : {A : Type 0} → (A → Bool) → List A → ℕ
many is [] = 0
many is (x ∷ xs) = counted (is x) (many is xs)

-- How many of them were called by the event, are in the set, or are not.
abbrev pub called_until : ℕ → List Called → ℕ
called_until event cs = many (λ (c : Called). nat_le c.at event) cs

abbrev pub lifted_among : List Bool → List Called → ℕ
lifted_among set cs = many (λ (c : Called). has set c.call) cs

abbrev pub left_among : List Bool → List Called → ℕ
left_among set cs = many (λ (c : Called). not (has set c.call)) cs

-- How many of them are not in the set and were called by the event.
abbrev pub is_left_until : List Bool → ℕ → Called → Bool
is_left_until set event c = nat_le c.at event && not (has set c.call)

abbrev pub left_until : List Bool → ℕ → List Called → ℕ
left_until set event cs = many (is_left_until set event) cs

-- How many of them were called and returned by the event.
abbrev pub is_back_until : ℕ → Taken → Bool
is_back_until event t = nat_le t.by event && nat_le t.called event

abbrev pub back_until : ℕ → List Taken → ℕ
back_until event ts = many (is_back_until event) ts

-- How many of these are not in the set.
abbrev pub is_left_back_until : List Bool → ℕ → Taken → Bool
is_left_back_until set event t = is_back_until event t && not (has set t.call)

abbrev pub left_back_until : List Bool → ℕ → List Taken → ℕ
left_back_until set event ts = many (is_left_back_until set event) ts

-- How many of these were called after another event.
abbrev pub is_left_between : List Bool → ℕ → ℕ → Taken → Bool
is_left_between set since event t = not (nat_le t.called since) && is_left_back_until set event t

abbrev pub left_between : List Bool → ℕ → ℕ → List Taken → ℕ
left_between set since event ts = many (is_left_between set since event) ts
