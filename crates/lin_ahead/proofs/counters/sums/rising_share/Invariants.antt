use Rattle.std.proofs.Common.{◌≤◌}
use Rattle.lin_history.specs.Problems.AnyProblem.{any_problem}
use Rattle.lin_ahead.specs.Counters.Sums.{AddFreely}
use Rattle.lin_ahead.proofs.counters.sums.rising_share.Given as goal

-- what those so far add, which are below a number that is within the bound
abbrev pub invariant-loop-call : goal.invariant-loop-call
invariant-loop-call l = record {
  free : AddFreely (any_problem l.problem) l.config.lifted l.asked.up l.asked.get l.asked.call 0 l.at l.sum;
  within : l.at ≤ l.below;
}
