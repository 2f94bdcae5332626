use Rattle.std.proofs.Common.{ℕ, ◌<◌, ◌⊎◌}
use Rattle.std.specs.Prelude.{slice_index}
use Rattle.lin_history.specs.Problems.Precedence.{Before}
use Rattle.lin_history.specs.Problems.AnyProblem.{any_problem}
use Rattle.lin_core.proofs.refused_tries.is_apart.Given as goal

abbrev pub invariant-loop-i : goal.invariant-loop-i
invariant-loop-i l = (k : ℕ) → k < l.i → Before (any_problem l.problem) l.call (slice_index l.firsts k) ⊎ Before (any_problem l.problem) (slice_index l.lasts k) l.call
