use Rattle.std.proofs.Common.{◌≡◌}
use Rattle.lin_history.specs.Problems.AnyProblem.{any_problem}
use Rattle.lincheck.specs.Known.{IsKnownOf}
use Rattle.lincheck.proofs.turns.by_turns.Given as goal

-- what is known is right, and the memo names the same problem
abbrev pub invariant-loop : goal.invariant-loop
invariant-loop g l = IsKnownOf (any_problem l.problem) l.known × (l.memo.problem ≡ l.fn.memo.problem)
