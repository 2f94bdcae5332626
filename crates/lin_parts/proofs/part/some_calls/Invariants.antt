use Rattle.std.proofs.Common.{◌≡◌, ◌<◌, ℕ, length}
use Rattle.std.specs.Prelude.{slice_get, slice_index}
use Rattle.lin_parts.proofs.part.some_calls.Given as goal

-- the calls so far
abbrev pub invariant-loop-call : goal.invariant-loop-call
invariant-loop-call l = record {
  count : length l.calls.items ≡ l.call-index;
  same : (i : ℕ) → i < l.call-index → slice_get l.calls.items i ≡ slice_get l.problem.calls (slice_index l.kept i);
}
