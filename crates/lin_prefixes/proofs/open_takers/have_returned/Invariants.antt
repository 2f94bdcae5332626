use Rattle.std.proofs.Common.{ℕ, drop, ◌⊎◌}
use Rattle.lin_history.specs.Problems.Lists.{In}
use Rattle.lin_history.specs.Problems.AnyProblem.{any_problem}
use Rattle.lin_prefixes.specs.Freed.{HasReturned}
use Rattle.lin_prefixes.proofs.open_takers.have_returned.Given as goal

abbrev pub invariant-loop-taker : goal.invariant-loop-taker
invariant-loop-taker l = (b : ℕ) → In b l.takers → HasReturned (any_problem l.problem) l.op b ⊎ In b (drop l.taker-index l.takers)
