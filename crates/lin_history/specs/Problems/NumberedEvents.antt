-- The events of a problem with their numbers, and how they are put in order.
use Rattle.std.specs.Prelude.{◌≡◌, ℕ, ◌+◌, ◌≤◌, Option, Some, None, List, [], ◌∷◌, ◌++◌, map}
use Rattle.std.specs.declared.cmp.Ordering.{Ordering}
use Rattle.std.specs.Ordering.{nat_cmp, on, flip_args}
use Rattle.std.specs.List.{All}
use Rattle.std.specs.List.Sorted.{IsPermutation, IsNonDecreasingBy}
use Rattle.std.specs.BinaryHeap.{IsHeap}
use Rattle.lin_history.specs.declared.problems.problem.ProblemCall.{ProblemCall}
use Rattle.lin_history.specs.declared.problems.timeline.Timed.{Timed}
use Rattle.lin_history.specs.declared.problems.timeline.ProblemEvent.{ProblemEvent}
use Rattle.lin_history.specs.declared.problems.timeline.ProblemEvent.TheVariants.{Call, Return}

-- The number of an event.
abbrev pub number_at : Timed → ℕ
number_at t = t.number

-- The event without its number.
abbrev pub event_at : Timed → ProblemEvent
event_at t = t.event

-- Of two events the one with the lesser number is the greater, so that a heap gives it first.
abbrev pub first_by_number : Timed → Timed → Ordering
first_by_number = flip_args (on number_at nat_cmp)

-- The call event of this call.
abbrev pub call_event : {Op Reply : Type 0} → ℕ → ProblemCall Op Reply → Timed
call_event call x = record { number = x.called; event = Call call }

-- The return event of this call, if it has one.
abbrev pub return_of : {Reply : Type 0} → ℕ → Option (ℕ × Reply) → List Timed
return_of call None = []
return_of call (Some r) = (record { number = r.0; event = Return call }) ∷ []

-- The events of this call.
abbrev pub events_of_call : {Op Reply : Type 0} → ℕ → ProblemCall Op Reply → List Timed
events_of_call call x = call_event call x ∷ return_of call x.returned

-- The events of the calls, of which the first has this number.
abbrev pub events_from : {Op Reply : Type 0} → ℕ → List (ProblemCall Op Reply) → List Timed
events_from call [] = []
events_from call (x ∷ xs) = events_of_call call x ++ events_from (call + 1) xs

-- The old list has this event, than which none in it has a lesser number, and the events of the new list, which is a heap.
pub record TakesFirst (old : List Timed) (first : Timed) (new : List Timed) : Type 0 where
  pub least : All (λ t. first.number ≤ t.number) old
  pub heap : IsHeap first_by_number new
  pub moved : IsPermutation old (first ∷ new)

-- Of all these events the ones up to this number are in order, and the others, none of which has a lesser number, are in a
-- heap.
pub record AreMerged (all : List Timed) (low : ℕ) (events : List ProblemEvent) (later : List Timed) : Type 0 where
  pub rows : List Timed
  pub same : events ≡ map event_at rows
  pub sorted : IsNonDecreasingBy number_at rows
  pub below : All (λ t. t.number ≤ low) rows
  pub above : All (λ t. low ≤ t.number) later
  pub heap : IsHeap first_by_number later
  pub moved : IsPermutation all (rows ++ later)

-- The same up to some number that is not greater than this one.
abbrev pub AreMergedUpTo : List Timed → ℕ → List ProblemEvent → List Timed → Type 0
AreMergedUpTo all number events later = (low : ℕ) × (low ≤ number) × AreMerged all low events later
