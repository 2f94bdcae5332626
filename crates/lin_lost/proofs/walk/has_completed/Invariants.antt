use Rattle.std.proofs.Common.{◌≡◌, ℕ, ◌<◌, true, false, get_or}
use Rattle.lin_history.specs.Problems.AnyProblem.{any_problem}
use Rattle.lin_history.specs.Problems.Precedence.{IsCompleted}
use Rattle.lin_lost.proofs.walk.has_completed.Given as goal

-- each completed call so far has its flag
abbrev pub invariant-loop-call : goal.invariant-loop-call
invariant-loop-call l = (c : ℕ) → c < l.call → IsCompleted (any_problem l.problem) c → get_or l.flags c false ≡ true
