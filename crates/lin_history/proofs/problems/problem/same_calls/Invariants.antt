use Rattle.std.proofs.Common.{ℕ, ◌<◌}
use Rattle.std.specs.List.{slice_get}
use Rattle.lin_history.specs.Problems.SameProblemLemmas.{SameRead}
use Rattle.lin_history.proofs.problems.problem.same_calls.Given as goal

abbrev pub invariant-loop-i : goal.invariant-loop-i
invariant-loop-i g l = (k : ℕ) → k < l.i → SameRead g.P.PartialEq.eq g.R.PartialEq.eq (slice_get l.a k) (slice_get l.b k)
