-- What a search shows of the problem of some of a problem's calls (this project's own).
use Rattle.std.specs.Prelude.{ℕ, List}
use Rattle.lin_history.specs.declared.problems.problem.ProblemCall.{ProblemCall}
use Rattle.lin_history.specs.Problems.Lists.{IsLeast}
use Rattle.lin_history.specs.Problems.Problem.{Problem}
use Rattle.lin_history.specs.Problems.Linearizations.{IsLinearization}
use Rattle.lin_effort.specs.declared.decision.Decision.{Decision}
use Rattle.lin_effort.specs.declared.decision.Decision.TheVariants.{Found, Refuted, Spent, Stopped}
use Rattle.lin_parts.specs.Parts.{ArePart, part_of}

-- The least linearization of the problem of these calls; or that it has none; or nothing.
abbrev pub IsPartAnswer : {State Op Reply : Type 0} → Problem State Op Reply → List ℕ → Decision → Type 0
IsPartAnswer {Op = Op} {Reply = Reply} p kept (Found order) = (calls : List (ProblemCall Op Reply)) × ArePart p kept calls × IsLeast (IsLinearization (part_of p calls)) order
IsPartAnswer {Op = Op} {Reply = Reply} p kept Refuted = (calls : List (ProblemCall Op Reply)) × ArePart p kept calls × ((l : List ℕ) → IsLinearization (part_of p calls) l → ⊥)
IsPartAnswer p kept Spent = Unit {0}
IsPartAnswer p kept Stopped = Unit {0}
