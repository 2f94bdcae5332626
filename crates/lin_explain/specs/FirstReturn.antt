-- The first return among calls that a run leaves (this project's own).
use Rattle.std.specs.Prelude.{◌≡◌, ◌↔◌, ℕ, ◌<◌, Bool, false, Option, List, slice_get, IsSomeAnd}
use Rattle.lin_history.specs.declared.problems.problem.ProblemCall.{ProblemCall}
use Rattle.lin_history.specs.Problems.Continuations.{has}

-- The call is not in the set, and returned before the event of this number.
abbrev pub LeavesBefore : {Op Reply : Type 0} → List (ProblemCall Op Reply) → List Bool → ℕ → ℕ → Type 0
LeavesBefore calls set number a = (has set a ≡ false) × IsSomeAnd (slice_get calls a) (λ x. IsSomeAnd x.returned (λ r. r.0 < number))

-- The number of the first return of those of the first n calls that are not in the set: one of them returned before an event
-- exactly where this number is less than the event's.
abbrev pub IsFirstReturn : {Op Reply : Type 0} → List (ProblemCall Op Reply) → List Bool → ℕ → Option ℕ → Type 0
IsFirstReturn calls set n first = (number : ℕ) → IsSomeAnd first (λ m. m < number) ↔ ((a : ℕ) × (a < n) × LeavesBefore calls set number a)
