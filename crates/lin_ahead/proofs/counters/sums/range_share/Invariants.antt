use Rattle.lin_history.specs.Problems.AnyProblem.{any_problem}
use Rattle.lin_ahead.specs.Counters.Sums.{AddFreely}
use Rattle.lin_ahead.proofs.counters.sums.range_share.Given as goal

-- what those so far add
abbrev pub invariant-loop-call : goal.invariant-loop-call
invariant-loop-call l = AddFreely (any_problem l.problem) l.config.lifted l.asked.up l.asked.get l.asked.call l.from l.call l.sum
