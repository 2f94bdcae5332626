-- What a search from a configuration answers (this project's own; the rule for success follows from Herlihy and Wing 1990).
use Rattle.std.specs.Prelude.{ℕ, List, Bool, Option, None, IsSomeAnd}
use Rattle.lin_history.specs.Problems.Lists.{IsLeast, IsLongest}
use Rattle.lin_history.specs.Problems.Problem.{Problem}
use Rattle.lin_history.specs.Problems.Continuations.{IsContinuation, IsCompletion}
use Rattle.lin_search.specs.declared.outcome.Outcome.{Outcome}
use Rattle.lin_search.specs.declared.outcome.Outcome.TheVariants.{Found, Refuted, Undecided, Stopped}
use Rattle.lin_search.specs.Size.{HasMoreThan}

-- The configuration has no completion.
abbrev pub HasNoCompletion : {State Op Reply : Type 0} → Problem State Op Reply → List Bool → State → Type 0
HasNoCompletion p set s = (l : List ℕ) → IsCompletion p set s l → ⊥

-- What each outcome of a search says: the least completion; that there is none, with the longest; that there are more
-- continuations than the limit, which was given; what the stop answers by its number.
abbrev pub IsAnswer : {State Op Reply : Type 0} → Problem State Op Reply → List Bool → State → Option ℕ → (ℕ → Type 0) → Outcome → Type 0
IsAnswer p set s limit tells (Found order) = IsLeast (IsCompletion p set s) order
IsAnswer p set s limit tells (Refuted longest) = HasNoCompletion p set s × IsLongest (IsContinuation p set s) longest.more longest.first
IsAnswer p set s limit tells Undecided = IsSomeAnd limit (λ most. HasMoreThan (IsContinuation p set s) most)
IsAnswer p set s limit tells (Stopped told) = tells told

-- The outcome of a search that has neither a limit nor a stop: the least completion; or that there is none, with the longest.
abbrev pub IsDecision : {State Op Reply : Type 0} → Problem State Op Reply → List Bool → State → Outcome → Type 0
IsDecision p set s outcome = IsAnswer p set s None (λ told. ⊥) outcome

-- The outcome is that there is no completion.
abbrev pub IsRefutation : Outcome → Type 0
IsRefutation (Found order) = ⊥
IsRefutation (Refuted longest) = Unit {0}
IsRefutation Undecided = ⊥
IsRefutation (Stopped told) = ⊥
