-- What a check of one object finds (this project's own; the definition is that of Herlihy and Wing 1990).
use Rattle.std.specs.Prelude.{◌≡◌, ℕ, ◌<◌, ◌⊎◌, Some, IsSome, IsSomeAnd, List, slice_get}
use Rattle.lin_history.specs.Problems.Problem.{Problem}
use Rattle.lin_history.specs.Problems.Lists.{IsLeast}
use Rattle.lin_history.specs.Problems.Linearizations.{IsRun, IsLinearization}
use Rattle.lin_search.specs.Count.{HasReachable}
use Rattle.lin_search.specs.LongestRun.{IsFirstLongest}
use Rattle.lin_search.specs.Size.{HasMoreThan}
use Rattle.lin_table.specs.declared.table.TheConstants.{STORED_BOUND}
use Rattle.lin_workers.specs.declared.verdict.ObjectVerdict.{ObjectVerdict}
use Rattle.lin_workers.specs.declared.verdict.ObjectVerdict.TheVariants.{Yes, No, Undecided}
use Rattle.lin_workers.specs.declared.verdict.Alone.{Alone}
use Rattle.lin_workers.specs.declared.verdict.Alone.TheVariants.{Decided, Stalled, LimitMet, TimeUp}
use Rattle.lin_workers.specs.Bounds.{Bounds, unbounded}
use Rattle.lin_workers.specs.Cut.{Task, IsCut, DecideBy, HasNoneBefore}

-- An object may be undecided: the time is bounded; or there are more runs that are not empty than the limit, which was given.
abbrev pub MayBeUndecided : {State Op Reply : Type 0} → Problem State Op Reply → Bounds → Type 0
MayBeUndecided p bounds = IsSome bounds.seconds ⊎ IsSomeAnd bounds.limit (λ most. HasMoreThan (IsRun p) most)

-- What each verdict says: the least linearization; that there is none, with the longest run; that the bounds may have ended the
-- search.
abbrev pub IsObjectVerdict : {State Op Reply : Type 0} → Problem State Op Reply → Bounds → ObjectVerdict → Type 0
IsObjectVerdict p bounds (Yes order) = IsLeast (IsLinearization p) order
IsObjectVerdict p bounds (No run) = ((l : List ℕ) → IsLinearization p l → ⊥) × IsFirstLongest (IsRun p) run
IsObjectVerdict p bounds Undecided = MayBeUndecided p bounds

-- So many configurations were stored in the check: fewer than the bound, and the problem has as many reachable ones or more,
-- where equal ones count once (Lowe 2017).
pub record IsNumberStored {State Op Reply : Type 0} (p : Problem State Op Reply) (stored : ℕ) : Type 0 where
  pub few : stored < STORED_BOUND
  pub reachable : HasReachable p stored

-- What the calling thread tells by itself: a verdict that is not undecided, whatever the bounds, with the number stored; or why
-- there is none. The time was up only where it is bounded.
abbrev pub IsToldAlone : {State Op Reply : Type 0} → Problem State Op Reply → Bounds → Alone → Type 0
IsToldAlone p bounds (Decided verdict stored) = IsObjectVerdict p unbounded verdict × IsNumberStored p stored
IsToldAlone p bounds (Stalled lifts) = Unit {0}
IsToldAlone p bounds LimitMet = Unit {0}
IsToldAlone p bounds (TimeUp stored) = IsSome bounds.seconds × IsNumberStored p stored

-- The task is one of a cut that decides the problem, and none before it has a completion.
pub record IsNextTask {State Op Reply : Type 0} (p : Problem State Op Reply) (t : Task State) : Type 0 where
  pub level : ℕ
  pub tasks : List (Task State)
  pub index : ℕ
  pub cut : IsCut p level tasks
  pub decide : DecideBy p tasks
  pub at : slice_get tasks index ≡ Some t
  pub none : HasNoneBefore p tasks index
