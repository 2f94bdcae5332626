-- What is answered of one object (this project's own; the definition is that of Herlihy and Wing 1990).
use Rattle.std.specs.Prelude.{◌≡◌, ℕ, IsSome, List, Option, Some, None}
use Rattle.lin_history.specs.Problems.Problem.{Problem}
use Rattle.lin_history.specs.Problems.Lists.{IsLeast}
use Rattle.lin_history.specs.Problems.Linearizations.{IsRun, IsLinearization}
use Rattle.lin_search.specs.LongestRun.{IsFirstLongest}
use Rattle.lin_workers.specs.Bounds.{Bounds}
use Rattle.lin_workers.specs.Verdict.{IsNumberStored, MayBeUndecided}
use Rattle.lincheck.specs.declared.object_answer.Question.{Question}
use Rattle.lincheck.specs.declared.object_answer.Question.TheVariants.{Verdict, LongestRun}
use Rattle.lincheck.specs.declared.object_answer.ObjectAnswer.{ObjectAnswer}
use Rattle.lincheck.specs.declared.object_answer.ObjectAnswer.TheVariants.{Yes, HasOrder, No, Undecided}

-- The problem has no linearization.
abbrev pub HasNoOrder : {State Op Reply : Type 0} → Problem State Op Reply → Type 0
HasNoOrder p = (l : List ℕ) → IsLinearization p l → ⊥

-- What each answer says: the least linearization; that there is one, where no more was asked for; that there is none, with the longest
-- run; that there is none, where the run was not asked for or the time is bounded; that the bounds may have ended the search.
abbrev pub IsObjectAnswer : {State Op Reply : Type 0} → Problem State Op Reply → Question → Bounds → ObjectAnswer → Type 0
IsObjectAnswer p question bounds (Yes order) = IsLeast (IsLinearization p) order
IsObjectAnswer p question bounds HasOrder = (question ≡ Verdict) × ((l : List ℕ) × IsLinearization p l)
IsObjectAnswer p question bounds (No (Some run)) = HasNoOrder p × IsFirstLongest (IsRun p) run
IsObjectAnswer p question bounds (No None) = HasNoOrder p × (question ≡ LongestRun → IsSome bounds.seconds)
IsObjectAnswer p question bounds Undecided = MayBeUndecided p bounds

-- Such an answer, with a number of configurations stored.
abbrev pub IsAnswered : {State Op Reply : Type 0} → Problem State Op Reply → Question → Bounds → ObjectAnswer × ℕ → Type 0
IsAnswered p question bounds r = IsObjectAnswer p question bounds r.0 × IsNumberStored p r.1
