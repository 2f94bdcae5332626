-- The problem of some of a problem's calls (this project's own).
use Rattle.std.specs.Prelude.{◌≡◌, ◌⊎◌, ℕ, ◌<◌, List, [], ◌∷◌, ◌++◌, length, slice_get, slice_index}
use Rattle.lin_history.specs.declared.problems.problem.ProblemCall.{ProblemCall}
use Rattle.lin_history.specs.Problems.Lists.{In}
use Rattle.lin_history.specs.Problems.Problem.{Problem}

-- The calls of these numbers, in increasing order, are those of the list.
pub record ArePart {State Op Reply : Type 0} (p : Problem State Op Reply) (kept : List ℕ) (calls : List (ProblemCall Op Reply)) : Type 0 where
  pub count : length calls ≡ length kept
  pub same : (i : ℕ) → i < length kept → slice_get calls i ≡ slice_get p.calls (slice_index kept i)
  pub rises : (i j : ℕ) → i < j → j < length kept → slice_index kept i < slice_index kept j

-- The problem with these calls in place of its own.
abbrev pub part_of : {State Op Reply : Type 0} → Problem State Op Reply → List (ProblemCall Op Reply) → Problem State Op Reply
part_of p calls = record p { calls = calls }

-- The number of a call of a part, by its number in the whole.
abbrev pub name : List ℕ → ℕ → ℕ
name kept i = slice_index kept i

-- The numbers of calls of a part, by their numbers in the whole.
abbrev pub named : List ℕ → List ℕ → List ℕ
named kept [] = []
named kept (i ∷ l) = name kept i ∷ named kept l

-- Each call of the list has a greater number than those before it.
abbrev pub IsRising : List ℕ → Type 0
IsRising [] = Unit {0}
IsRising (c ∷ cs) = ((d : ℕ) → In d cs → c < d) × IsRising cs

-- The first list, and behind it the other calls below n in increasing order.
pub record IsFilled (n : ℕ) (l all : List ℕ) : Type 0 where
  pub rest : List ℕ
  pub is : all ≡ l ++ rest
  pub rises : IsRising rest
  pub below : (c : ℕ) → In c rest → c < n
  pub each : (c : ℕ) → c < n → In c l ⊎ In c rest
  pub apart : (c : ℕ) → In c rest → In c l → ⊥

-- The calls of the problem by these numbers, in increasing order.
abbrev pub AreSomeCalls : {State Op Reply : Type 0} → Problem State Op Reply → List ℕ → Type 0
AreSomeCalls p kept = IsRising kept × ((c : ℕ) → In c kept → c < length p.calls)
