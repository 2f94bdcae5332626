-- Configurations that used fewer pending calls (this project's own).
use Rattle.std.specs.Prelude.{◌≡◌, ℕ, Bool, true, List}
use Rattle.lin_history.specs.Problems.Problem.{Problem}
use Rattle.lin_history.specs.Problems.Precedence.{IsCompleted}
use Rattle.lin_history.specs.Problems.Continuations.{has, IsContinuation, IsCompletion}
use Rattle.lin_search.specs.Answer.{HasNoCompletion}

-- The first set used fewer: both have the same completed calls, and each pending call of the first is in the second.
pub record UsedFewer {State Op Reply : Type 0} (p : Problem State Op Reply) (a b : List Bool) : Type 0 where
  pub subset : (c : ℕ) → has a c ≡ true → has b c ≡ true
  pub completed : (c : ℕ) → IsCompleted p c → has b c ≡ true → has a c ≡ true

-- The first configuration is no worse: it used fewer, and the states are equal.
pub record IsNoWorse {State Op Reply : Type 0} (p : Problem State Op Reply) (a : List Bool) (s : State) (b : List Bool) (t : State) : Type 0 where
  pub fewer : UsedFewer p a b
  pub state : p.same_state s t ≡ true

-- What can follow the second configuration can follow one that is no worse, and completes it where it completes the second.
pub record GoesOnAsWell {State Op Reply : Type 0} (p : Problem State Op Reply) (a : List Bool) (s : State) (b : List Bool) (t : State) : Type 0 where
  pub continuations : (l : List ℕ) → IsContinuation p b t l → IsContinuation p a s l
  pub completions : (l : List ℕ) → IsCompletion p b t l → IsCompletion p a s l
  pub none : HasNoCompletion p a s → HasNoCompletion p b t

-- Fewer used is never worse.
abbrev pub FewerLaw : {State Op Reply : Type 0} → Problem State Op Reply → Type 0
FewerLaw {State} p = (a b : List Bool) (s t : State) → IsNoWorse p a s b t → GoesOnAsWell p a s b t
