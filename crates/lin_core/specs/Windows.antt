-- Some calls of a problem, as they stood in a window of its events: what returned before it is over, and of what began before it
-- only that it may come (this project's own).
use Rattle.std.specs.Prelude.{◌≡◌, ◌⊎◌, ℕ, ◌<◌, ◌≤◌, nat_lt, Bool, true, false, Option, Some, None, List, length, slice_get, slice_index, if◌then◌else◌}
use Rattle.lin_history.specs.declared.problems.problem.ProblemCall.{ProblemCall}
use Rattle.lin_history.specs.Problems.Lists.{In}
use Rattle.lin_history.specs.Problems.Problem.{Problem}
use Rattle.lin_core.specs.Cuts.{returned_by}

-- The return of a call that was called in the window, if it comes no later than the event; of an earlier call, none.
abbrev pub returned_in : {Reply : Type 0} → ℕ → ℕ → ℕ → Option (ℕ × Reply) → Option (ℕ × Reply)
returned_in from event called returned = if nat_lt called from then None else returned_by event returned

-- The call as it stood in the window: pending, if it was called before it or returned after it.
abbrev pub call_in : {Op Reply : Type 0} → ℕ → ℕ → ProblemCall Op Reply → ProblemCall Op Reply
call_in from event x = record x { returned = returned_in from event x.called x.returned }

-- The call returned before the window.
abbrev pub is_over : {Reply : Type 0} → ℕ → Option (ℕ × Reply) → Bool
is_over from None = false
is_over from (Some r) = nat_lt r.0 from

-- The calls of these numbers, in increasing order and called by the event, are those of the list, as they stood in the window.
pub record AreWithin {State Op Reply : Type 0} (p : Problem State Op Reply) (from event : ℕ) (kept : List ℕ) (calls : List (ProblemCall Op Reply)) : Type 0 where
  pub count : length calls ≡ length kept
  pub rises : (i j : ℕ) → i < j → j < length kept → slice_index kept i < slice_index kept j
  pub each : (i : ℕ) → i < length kept → (x : ProblemCall Op Reply) × (slice_get p.calls (slice_index kept i) ≡ Some x) × (x.called ≤ event) × (slice_get calls i ≡ Some (call_in from event x))

-- Of the calls called by the event each one that is not kept is over, or may go.
abbrev pub OthersMayGo : {State Op Reply : Type 0} → Problem State Op Reply → ℕ → ℕ → List ℕ → (ProblemCall Op Reply → Type 0) → Type 0
OthersMayGo {Op = Op} {Reply = Reply} p from event kept may_go = (c : ℕ) (x : ProblemCall Op Reply) → slice_get p.calls c ≡ Some x → x.called ≤ event → In c kept ⊎ ((is_over from x.returned ≡ true) ⊎ may_go x)

-- Such calls, each of which may stay, where the others may go.
pub record AreEnoughWithin {State Op Reply : Type 0} (p : Problem State Op Reply) (from event : ℕ) (kept : List ℕ) (calls : List (ProblemCall Op Reply)) (may_stay may_go : ProblemCall Op Reply → Type 0) : Type 0 where
  pub within : AreWithin p from event kept calls
  pub stay : (i : ℕ) (x : ProblemCall Op Reply) → slice_get calls i ≡ Some x → may_stay x
  pub go : OthersMayGo p from event kept may_go
