-- What the entries of a problem are while some of its calls are lifted.
use Rattle.std.specs.Prelude.{◌≡◌, ℕ, ◌+◌, ◌<◌, ◌≤◌, Bool, true, false, Option, Some, None, is_some, List, [], ◌∷◌, length, slice_get, slice_index}
use Rattle.lin_history.specs.declared.problems.problem.ProblemCall.{ProblemCall}
use Rattle.lin_history.specs.declared.problems.timeline.ProblemEvent.{ProblemEvent}
use Rattle.lin_history.specs.declared.problems.timeline.ProblemEvent.TheVariants.{Call, Return}
use Rattle.lin_history.specs.Problems.Problem.{Problem}
use Rattle.lin_history.specs.Problems.Timeline.{IsTimeline}
use Rattle.lin_history.specs.Problems.Continuations.{has, no_calls}
use Rattle.lin_search.specs.CallSet.{with_call, lifted_set}
use Rattle.lin_search.specs.Links.{Linked, without, HasLinks, IsRow}
use Rattle.lin_search.specs.CallEntries.{CallEntries, AreCallEntries, with_return, without_calls}

-- How many of the calls are completed.
abbrev pub one_completed : Bool → ℕ
one_completed true = 1
one_completed false = 0

abbrev pub count_completed : {Op Reply : Type 0} → List (ProblemCall Op Reply) → ℕ
count_completed [] = 0
count_completed (x ∷ xs) = one_completed (is_some x.returned) + count_completed xs

-- How many of the calls are completed and not in the set.
abbrev pub one_left : Bool → Bool → ℕ
one_left completed true = 0
one_left completed false = one_completed completed

abbrev pub count_left : {Op Reply : Type 0} → List (ProblemCall Op Reply) → List Bool → ℕ
count_left [] set = 0
count_left (x ∷ xs) [] = 0
count_left (x ∷ xs) (b ∷ set) = one_left (is_some x.returned) b + count_left xs set

-- The call of a call event.
abbrev pub call_of_event : Option ProblemEvent → Option ℕ
call_of_event (Some (Call c)) = Some c
call_of_event (Some (Return c)) = None
call_of_event None = None

-- The entries of the call have links, and those of its return after the call entry is taken out.
pub record CanTakeOut (places : CallEntries) (l : Linked) (c : ℕ) : Type 0 where
  pub called : HasLinks l (slice_index places.called c)
  pub returned : (e : ℕ) → slice_get places.returned c ≡ Some (Some e) → HasLinks (without l (slice_index places.called c)) e

-- The same in the other order.
pub record CanPutBack (places : CallEntries) (l : Linked) (c : ℕ) : Type 0 where
  pub returned : (e : ℕ) → slice_get places.returned c ≡ Some (Some e) → HasLinks l e
  pub called : HasLinks (with_return l (slice_get places.returned c)) (slice_index places.called c)

-- The calls of the list are calls of the problem, no two the same and none in the set.
abbrev pub AreLifted : {State Op Reply : Type 0} → Problem State Op Reply → List Bool → List ℕ → Type 0
AreLifted p set [] = Unit {0}
AreLifted p set (c ∷ cs) = (c < length p.calls) × (has set c ≡ false) × AreLifted p (with_call set c) cs

-- The links are those of the timeline without the entries of the calls lifted; there is room for all calls; and so many
-- completed calls are left.
pub record AreEntries {State Op Reply : Type 0} (p : Problem State Op Reply) (events : List ProblemEvent) (places : CallEntries) (links : Linked) (lifted : List ℕ) (room left : ℕ) : Type 0 where
  pub timeline : IsTimeline p events
  pub are_call_entries : AreCallEntries (length p.calls) events places
  pub are_lifted : AreLifted p (no_calls p) lifted
  pub are_linked : (row : Linked) × IsRow (length events) row × (links ≡ without_calls places row lifted)
  pub has_room : length p.calls ≤ room
  pub count : left ≡ count_left p.calls (lifted_set p lifted)
