-- Enqueues of items that repeat whose item would have to be out by an event by which too few calls that may take it were called (this project's own).
use Rattle.std.specs.Prelude.{ℕ, ◌+◌, ◌-◌, ◌<◌, ◌≤◌, ℤ, Bool, not, ◌&&◌, List, [], ◌∷◌, slice_get, nat_eq, if◌then◌else◌}
use Rattle.std.specs.Ordering.{int_eq}
use Rattle.lin_object.specs.declared.op.Op.{Op}
use Rattle.lin_object.specs.declared.reply.Reply.{Reply}
use Rattle.lin_object.specs.declared.state.ObjState.{ObjState}
use Rattle.lin_history.specs.declared.problems.problem.ProblemCall.{ProblemCall}
use Rattle.lin_history.specs.Problems.Problem.{Problem}
use Rattle.lin_history.specs.Problems.Continuations.{has}
use Rattle.lin_laws.specs.Items.{Puts}
use Rattle.lin_ahead.specs.Queues.Slots.{calls_on, taken_at, taker_at}
use Rattle.lin_ahead.specs.Items.Takers.{called_by}
use Rattle.lin_laws.specs.Counting.{counted, how_many}

-- How often the item is among these.
abbrev pub times : ℤ → List ℤ → ℕ
times v [] = 0
times v (x ∷ xs) = counted (int_eq v x) (times v xs)

-- How often item w is among these until so many of item u came.
abbrev pub times_until : ℤ → ℤ → ℕ → List ℤ → ℕ
times_until w u k [] = 0
times_until w u k (x ∷ xs) = if nat_eq k 0 then 0 else counted (int_eq w x) 0 + times_until w u (k - counted (int_eq u x) 0) xs

-- How many of these calls the set lacks that were called and returned with the item by the event.
abbrev pub left_taken : List (ProblemCall Op Reply) → List Bool → ℤ → ℕ → List ℕ → ℕ
left_taken calls set v event ds = how_many (λ d. not (has set d) && taken_at v event (slice_get calls d)) ds

-- How many of them were called after another event.
abbrev pub left_taken_after : List (ProblemCall Op Reply) → List Bool → ℤ → ℕ → ℕ → List ℕ → ℕ
left_taken_after calls set v since event ds = how_many (λ d. not (called_by since (slice_get calls d)) && (not (has set d) && taken_at v event (slice_get calls d))) ds

-- How many of these calls the set lacks that may take the item and were called by the event.
abbrev pub left_takers : List (ProblemCall Op Reply) → List Bool → ℤ → ℕ → List ℕ → ℕ
left_takers calls set v event ds = how_many (λ d. not (has set d) && taker_at v event (slice_get calls d)) ds

-- By the event more of item w must be out than lie in the queue: as many as lie in front of what is out by an earlier event, since so
-- many calls that the set lacks returned with item u by then, and those that were called after that and returned by the event.
abbrev pub MoreAreOut : List (ProblemCall Op Reply) → List Bool → List ℤ → ℕ → Type 0
MoreAreOut calls set items event = (since : ℕ) × (since ≤ event) × ((u w : ℤ)
    × (times w items < times_until w u (left_taken calls set u since (calls_on u 0 calls)) items + left_taken_after calls set w since event (calls_on w 0 calls)))

-- An enqueue of the item made next hurries it: by such an event it has to be out with all that lies in the queue, and no more calls
-- that the set lacks and that may take it were called by then than it lies there.
abbrev pub IsHurried : List (ProblemCall Op Reply) → List Bool → List ℤ → ℤ → Type 0
IsHurried calls set items v = (event : ℕ) × (left_takers calls set v event (calls_on v 0 calls) ≤ times v items) × MoreAreOut calls set items event

-- The call is such an enqueue.
abbrev pub ComesHurried : Problem ObjState Op Reply → List Bool → List ℤ → ℕ → Type 0
ComesHurried p set items b = (v : ℤ) × Puts p b v × IsHurried p.calls set items v
