-- What the definitions need of a problem.
use Rattle.std.specs.Prelude.{ℕ, Bool, Option, List}
use Rattle.lin_history.specs.declared.problems.problem.ProblemCall.{ProblemCall}
use Rattle.lin_history.specs.Problems.ProblemParts.{ProblemParts}

-- A problem by what its object's operations do, by when two states and two replies are equal (each type's own `Eq`),
-- by its state at the start, and by its calls, numbered from 0.
pub record Problem (State Op Reply : Type 0) : Type 0 where
  pub after : State → ℕ → Op → Option (State × Reply)
  pub same_state : State → State → Bool
  pub same_reply : Reply → Reply → Bool
  pub start : State
  pub calls : List (ProblemCall Op Reply)

-- A problem of the program, with the meaning of its object's operations and the equalities of its types.
abbrev pub problem_of : {Object State Op Reply : Type 0} → (Object → State → ℕ → Op → Option (State × Reply)) → (State → State → Bool) → (Reply → Reply → Bool) → ProblemParts Object State Op Reply → Problem State Op Reply
problem_of after same_state same_reply p =
    record { after = after p.object; same_state = same_state; same_reply = same_reply; start = p.start; calls = p.calls }
