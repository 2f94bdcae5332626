-- Runs and linearizations of a problem (Herlihy and Wing 1990).
use Rattle.std.specs.Prelude.{ℕ, List}
use Rattle.lin_history.specs.Problems.Problem.{Problem}
use Rattle.lin_history.specs.Problems.Continuations.{no_calls, IsContinuation, IsCompletion}

-- A run: distinct calls, legal from the start, that keep precedence; what can follow no call at all.
abbrev pub IsRun : {State Op Reply : Type 0} → Problem State Op Reply → List ℕ → Type 0
IsRun p l = IsContinuation p (no_calls p) p.start l

-- A linearization: a run that has every completed call.
abbrev pub IsLinearization : {State Op Reply : Type 0} → Problem State Op Reply → List ℕ → Type 0
IsLinearization p l = IsCompletion p (no_calls p) p.start l
