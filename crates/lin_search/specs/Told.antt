-- What a search tells of a problem that looks for a linearization alone (this project's own).
use Rattle.std.specs.Prelude.{ℕ, List, ◌⊎◌}
use Rattle.lin_history.specs.Problems.Lists.{IsLeast}
use Rattle.lin_history.specs.Problems.Problem.{Problem}
use Rattle.lin_history.specs.Problems.Linearizations.{IsRun, IsLinearization}
use Rattle.lin_search.specs.declared.outcome.Outcome.{Outcome}
use Rattle.lin_search.specs.declared.outcome.Outcome.TheVariants as outcomes
use Rattle.lin_search.specs.declared.told.Told.{Told}
use Rattle.lin_search.specs.declared.told.Told.TheVariants.{Found, Refuted, Nothing}
use Rattle.lin_search.specs.Size.{HasMoreThan}

-- What is told is right of the problem: the least linearization; or that there is none; or nothing.
abbrev pub IsRightOf : {State Op Reply : Type 0} → Problem State Op Reply → Told → Type 0
IsRightOf p (Found order) = IsLeast (IsLinearization p) order
IsRightOf p Refuted = (l : List ℕ) → IsLinearization p l → ⊥
IsRightOf p Nothing = Unit {0}

-- Something is told, or else this holds.
abbrev pub IsToldUnless : Type 0 → Told → Type 0
IsToldUnless why (Found order) = Unit {0}
IsToldUnless why Refuted = Unit {0}
IsToldUnless why Nothing = why

-- There are more runs that are not empty than lifts may be made, or the stop answered.
abbrev pub IsSpent : {State Op Reply : Type 0} → Problem State Op Reply → ℕ → (ℕ → Type 0) → Type 0
IsSpent p lifts tells = HasMoreThan (IsRun p) lifts ⊎ ((number : ℕ) × tells number)

-- What the outcome of a search from the root tells.
abbrev pub told_by : Outcome → Told
told_by (outcomes.Found order) = Found order
told_by (outcomes.Refuted longest) = Refuted
told_by outcomes.Undecided = Nothing
told_by (outcomes.Stopped number) = Nothing
