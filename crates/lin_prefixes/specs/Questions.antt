-- The calls by which it is asked whether a call has a run with some of its open calls (this project's own).
use Rattle.std.specs.Prelude.{◌≡◌, ◌⊎◌, ℕ, ◌+◌, ◌<◌, Some, None, List, length, slice_get}
use Rattle.lin_object.specs.declared.op.Op.{Op}
use Rattle.lin_object.specs.declared.reply.Reply.{Reply}
use Rattle.lin_object.specs.declared.state.ObjState.{ObjState}
use Rattle.lin_history.specs.declared.problems.problem.ProblemCall.{ProblemCall}
use Rattle.lin_history.specs.Problems.Lists.{In}
use Rattle.lin_history.specs.Problems.LegalLists.{next}
use Rattle.lin_history.specs.Problems.Problem.{Problem}
use Rattle.lin_history.specs.Problems.Precedence.{Before}
use Rattle.lin_parts.specs.Parts.{IsRising}
use Rattle.lin_prefixes.specs.Freed.{IsFreed}

-- The call precedes k or is one of those kept, and is not freed.
abbrev pub IsRequired : Problem ObjState Op Reply → ℕ → List ℕ → List ℕ → ℕ → Type 0
IsRequired p k kept takers c = (Before p c k ⊎ In c kept) × (IsFreed p takers c → ⊥)

-- Call c as it is, and then it is required; or made pending.
abbrev pub IsLoosened : Problem ObjState Op Reply → ℕ → List ℕ → List ℕ → ℕ → ProblemCall Op Reply → Type 0
IsLoosened p k kept takers c y = (x : ProblemCall Op Reply) → slice_get p.calls c ≡ Some x →
    ((y ≡ x) × IsRequired p k kept takers c) ⊎ (y ≡ record x { returned = None })

-- The first k + 1 calls, each loosened.
pub record IsLoosePrefix (p : Problem ObjState Op Reply) (k : ℕ) (kept takers : List ℕ) (calls : List (ProblemCall Op Reply)) : Type 0 where
  pub count : length calls ≡ k + 1
  pub each : (c : ℕ) → c < k + 1 → (y : ProblemCall Op Reply) × (slice_get calls c ≡ Some y) × IsLoosened p k kept takers c y

-- Each step of the call, with the reply that was recorded, leaves the state as it is.
abbrev pub IsIdle : Problem ObjState Op Reply → ℕ → Type 0
IsIdle p c = (s t : ObjState) → next p s c ≡ Some t → t ≡ s

-- The calls below n but for all that take, and for some that change nothing.
pub record AreAsked (p : Problem ObjState Op Reply) (n : ℕ) (takers calls : List ℕ) : Type 0 where
  pub rises : IsRising calls
  pub below : (c : ℕ) → In c calls → c < n
  pub there : (c : ℕ) → c < n → In c calls ⊎ (In c takers ⊎ IsIdle p c)
  pub apart : (c : ℕ) → In c calls → In c takers → ⊥
