use Rattle.lin_history.specs.Problems.AnyProblem.{any_problem}
use Rattle.lin_ahead.proofs.counters.SumRowLemmas.{SoFar}
use Rattle.lin_ahead.proofs.counters.rows.sums_at.Given as goal

-- the sums of the events so far
abbrev pub invariant-loop-place : goal.invariant-loop-place
invariant-loop-place l = SoFar (any_problem l.problem) l.up l.returns l.events l.place l.sum l.row.items
