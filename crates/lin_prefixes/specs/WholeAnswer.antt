-- What a search by prefixes shows of a problem (this project's own).
use Rattle.std.specs.Prelude.{List, ℕ}
use Rattle.lin_history.specs.Problems.Lists.{IsLeast}
use Rattle.lin_history.specs.Problems.Problem.{Problem}
use Rattle.lin_history.specs.Problems.Linearizations.{IsLinearization, IsRun}
use Rattle.lin_search.specs.LongestRun.{IsFirstLongest}
use Rattle.lin_prefixes.specs.declared.whole_answer.WholeAnswer.{WholeAnswer}
use Rattle.lin_prefixes.specs.declared.whole_answer.WholeAnswer.TheVariants.{Found, Refuted}

-- The least linearization; or that there is none, and the first of the longest runs.
abbrev pub IsWholeAnswer : {State Op Reply : Type 0} → Problem State Op Reply → WholeAnswer → Type 0
IsWholeAnswer p (Found order) = IsLeast (IsLinearization p) order
IsWholeAnswer p (Refuted run) = ((l : List ℕ) → IsLinearization p l → ⊥) × IsFirstLongest (IsRun p) run
