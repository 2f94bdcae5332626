-- What is decided of a problem (this project's own).
use Rattle.std.specs.Prelude.{ℕ, List}
use Rattle.lin_history.specs.Problems.Lists.{IsLeast}
use Rattle.lin_history.specs.Problems.Problem.{Problem}
use Rattle.lin_history.specs.Problems.Linearizations.{IsLinearization}
use Rattle.lin_effort.specs.declared.decision.Decision.{Decision}
use Rattle.lin_effort.specs.declared.decision.Decision.TheVariants.{Found, Refuted, Spent, Stopped}

-- What is decided is right of the problem: the least linearization; or that there is none; or nothing.
abbrev pub IsDecisionOf : {State Op Reply : Type 0} → Problem State Op Reply → Decision → Type 0
IsDecisionOf p (Found order) = IsLeast (IsLinearization p) order
IsDecisionOf p Refuted = (l : List ℕ) → IsLinearization p l → ⊥
IsDecisionOf p Spent = Unit {0}
IsDecisionOf p Stopped = Unit {0}
