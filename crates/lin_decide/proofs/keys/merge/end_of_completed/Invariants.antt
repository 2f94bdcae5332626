use Rattle.std.proofs.Common.{◌≤◌, ℕ, drop, length}
use Rattle.lin_history.specs.Problems.Lists.{In}
use Rattle.lin_history.specs.Problems.Precedence.{IsCompleted}
use Rattle.lin_history.specs.Problems.AnyProblem.{any_problem}
use Rattle.lin_decide.proofs.keys.merge.end_of_completed.Given as goal

abbrev pub invariant-loop-end : goal.invariant-loop-end
invariant-loop-end l = record {
  within : l.end ≤ length l.calls;
  behind : (c : ℕ) → In c (drop l.end l.calls) → IsCompleted (any_problem l.problem) c → ⊥;
}

abbrev pub decreases-loop-end : goal.decreases-loop-end
decreases-loop-end l = l.end
