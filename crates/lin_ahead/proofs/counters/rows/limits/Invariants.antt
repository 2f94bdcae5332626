use Rattle.lin_history.specs.Problems.AnyProblem.{any_problem}
use Rattle.lin_ahead.proofs.counters.SumRowLemmas.{LimitsSoFar}
use Rattle.lin_ahead.proofs.counters.rows.limits.Given as goal

-- the limits of the calls so far
abbrev pub invariant-loop-call : goal.invariant-loop-call
invariant-loop-call l = LimitsSoFar (any_problem l.problem) l.start l.up l.call l.row.items
