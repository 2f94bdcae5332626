use Rattle.std.proofs.Common.{◌≡◌, ℕ, ◌<◌}
use Rattle.std.specs.Prelude.{slice_get, slice_index}
use Rattle.lin_parts.proofs.part.is_part.Given as goal

abbrev pub invariant-loop-i : goal.invariant-loop-i
invariant-loop-i l = (k : ℕ) → k < l.i → slice_get l.part.calls k ≡ slice_get l.problem.calls (slice_index l.kept k)
