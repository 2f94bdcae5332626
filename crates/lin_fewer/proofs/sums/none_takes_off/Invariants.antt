use Rattle.std.proofs.Common.{◌≡◌, ◌<◌, ℕ, false}
use Rattle.std.specs.Prelude.{slice_get}
use Rattle.lin_fewer.specs.Adds.{part_of_call}
use Rattle.lin_fewer.proofs.sums.none_takes_off.Given as goal

abbrev pub invariant-loop-call : goal.invariant-loop-call
invariant-loop-call l = (d : ℕ) → d < l.call → part_of_call false (slice_get l.problem.calls d) ≡ 0
