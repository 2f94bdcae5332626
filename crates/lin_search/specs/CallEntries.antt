-- Where the entries of a problem's calls are.
use Rattle.std.specs.Prelude.{◌≡◌, ℕ, ◌+◌, Option, Some, None, List, [], ◌∷◌, length, slice_get, slice_index}
use Rattle.lin_history.specs.declared.problems.timeline.ProblemEvent.{ProblemEvent}
use Rattle.lin_history.specs.declared.problems.timeline.ProblemEvent.TheVariants.{Call, Return}
use Rattle.lin_search.specs.Links.{Linked, without, with_entry}

-- Of each call its call entry, and its return entry where it has one.
pub record CallEntries : Type 0 where
  pub called : List ℕ
  pub returned : List (Option ℕ)

-- The entry of an event is its place in the list of the events, counted from 1.
pub record AreCallEntries (calls : ℕ) (events : List ProblemEvent) (places : CallEntries) : Type 0 where
  pub called_count : length places.called ≡ calls
  pub returned_count : length places.returned ≡ calls
  pub called : (i c : ℕ) → slice_get events i ≡ Some (Call c) → slice_get places.called c ≡ Some (i + 1)
  pub returned : (i c : ℕ) → slice_get events i ≡ Some (Return c) → slice_get places.returned c ≡ Some (Some (i + 1))
  pub only : (c e : ℕ) → slice_get places.returned c ≡ Some (Some e) → (i : ℕ) × (e ≡ i + 1) × (slice_get events i ≡ Some (Return c))

-- The links without the return entry, if there is one.
abbrev pub without_return : Linked → Option (Option ℕ) → Linked
without_return l None = l
without_return l (Some None) = l
without_return l (Some (Some e)) = without l e

-- The links without the entries of the call.
abbrev pub without_call : CallEntries → Linked → ℕ → Linked
without_call places l c = without_return (without l (slice_index places.called c)) (slice_get places.returned c)

-- The links with the return entry, if there is one.
abbrev pub with_return : Linked → Option (Option ℕ) → Linked
with_return l None = l
with_return l (Some None) = l
with_return l (Some (Some e)) = with_entry l e

-- The links with the entries of the call, which were taken out last.
abbrev pub with_call_entries : CallEntries → Linked → ℕ → Linked
with_call_entries places l c = with_entry (with_return l (slice_get places.returned c)) (slice_index places.called c)

-- The links without the entries of the calls, taken out one call after another.
abbrev pub without_calls : CallEntries → Linked → List ℕ → Linked
without_calls places l [] = l
without_calls places l (c ∷ cs) = without_calls places (without_call places l c) cs
