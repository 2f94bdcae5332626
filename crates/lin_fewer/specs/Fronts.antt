-- The calls that may follow a set (this project's own).
use Rattle.std.specs.Prelude.{◌≡◌, ℕ, ◌<◌, ◌≤◌, Bool, true, false, List, Some, length, slice_get, ◌⊎◌}
use Rattle.lin_history.specs.declared.problems.problem.ProblemCall.{ProblemCall}
use Rattle.lin_history.specs.Problems.ProblemParts.{AreTimed}
use Rattle.lin_history.specs.Problems.Problem.{Problem}
use Rattle.lin_history.specs.Problems.Precedence.{IsCompleted}
use Rattle.lin_history.specs.Problems.Continuations.{has}

-- Every completed call below this one is in the set.
abbrev pub HasCompletedBelow : {State Op Reply : Type 0} → Problem State Op Reply → List Bool → ℕ → Type 0
HasCompletedBelow p set first = (c : ℕ) → c < first → IsCompleted p c → has set c ≡ true

-- Each call from the one on and below the other is completed.
abbrev pub AreCompletedTo : {State Op Reply : Type 0} → Problem State Op Reply → ℕ → ℕ → Type 0
AreCompletedTo p from to = (c : ℕ) → from ≤ c → c < to → c < length p.calls → IsCompleted p c

-- Each call from the one on and below the other is completed, and below the first one.
abbrev pub AreLeftOrDone : {State Op Reply : Type 0} → Problem State Op Reply → ℕ → ℕ → ℕ → Type 0
AreLeftOrDone p first from to = (c : ℕ) → from ≤ c → c < to → c < length p.calls → IsCompleted p c × (c < first)

-- For each of some calls, from the first on, the first one from it on that is pending; those behind them are completed.
pub record AreNextPending {State Op Reply : Type 0} (p : Problem State Op Reply) (next : List ℕ) (to : ℕ) : Type 0 where
  pub up : (c d : ℕ) → slice_get next c ≡ Some d → c ≤ d
  pub between : (c d : ℕ) → slice_get next c ≡ Some d → AreCompletedTo p c d
  pub behind : AreCompletedTo p (length next) to
  pub few : length next ≤ to

-- It is the first completed call that is not in the set.
pub record IsFirstLeft {State Op Reply : Type 0} (p : Problem State Op Reply) (set : List Bool) (first : ℕ) : Type 0 where
  pub within : first < length p.calls
  pub completed : IsCompleted p first
  pub outside : has set first ≡ false
  pub below : HasCompletedBelow p set first

-- It is the number of the call's return event, if it has returned.
abbrev pub IsReturnOf : {State Op Reply : Type 0} → Problem State Op Reply → ℕ → ℕ → Type 0
IsReturnOf {Op = Op} {Reply = Reply} p c n = (x : ProblemCall Op Reply) (r : ℕ × Reply) → slice_get p.calls c ≡ Some x → x.returned ≡ Some r → n ≡ r.0

-- A call that is not in the set returned at this number.
pub record IsReturnLeft {State Op Reply : Type 0} (p : Problem State Op Reply) (set : List Bool) (n : ℕ) : Type 0 where
  pub call : ℕ
  pub made : ProblemCall Op Reply
  pub returned : ℕ × Reply
  pub at : slice_get p.calls call ≡ Some made
  pub is : made.returned ≡ Some returned
  pub outside : has set call ≡ false
  pub number : returned.0 ≡ n

-- It is the lesser of this number and that of the call's return event, if the call is left.
pub record IsLesserReturn {State Op Reply : Type 0} (p : Problem State Op Reply) (set : List Bool) (c least lesser : ℕ) : Type 0 where
  pub below : lesser ≤ least
  pub own : (x : ProblemCall Op Reply) (r : ℕ × Reply) → slice_get p.calls c ≡ Some x → x.returned ≡ Some r → has set c ≡ false → lesser ≤ r.0
  pub there : (lesser ≡ least) ⊎ IsReturnLeft p set lesser

-- It is the least number of a return event of a call that is not in the set.
pub record IsLeastReturn {State Op Reply : Type 0} (p : Problem State Op Reply) (set : List Bool) (least : ℕ) : Type 0 where
  pub lower : (a : ℕ) (x : ProblemCall Op Reply) (r : ℕ × Reply) → slice_get p.calls a ≡ Some x → x.returned ≡ Some r → has set a ≡ false → least ≤ r.0
  pub there : IsReturnLeft p set least

-- The call was called after this number, and so were those of higher numbers.
pub record IsLater {State Op Reply : Type 0} (p : Problem State Op Reply) (c bound : ℕ) : Type 0 where
  pub timed : AreTimed p.calls
  pub made : ProblemCall Op Reply
  pub at : slice_get p.calls c ≡ Some made
  pub late : bound < made.called

-- The call was called no later.
abbrev pub IsCalledBy : {State Op Reply : Type 0} → Problem State Op Reply → ℕ → ℕ → Type 0
IsCalledBy {Op = Op} {Reply = Reply} p c bound = (y : ProblemCall Op Reply) → slice_get p.calls c ≡ Some y → y.called ≤ bound
