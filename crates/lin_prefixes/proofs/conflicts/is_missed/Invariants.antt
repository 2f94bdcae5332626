use Rattle.std.proofs.Common.{ℕ, drop, ◌⊎◌}
use Rattle.lin_history.specs.Problems.Lists.{In}
use Rattle.lin_prefixes.specs.Prefixes.{IsUnset}
use Rattle.lin_prefixes.proofs.conflicts.is_missed.Given as goal

abbrev pub invariant-loop-c : goal.invariant-loop-c
invariant-loop-c l = (b : ℕ) → In b l.calls → (IsUnset l.dropped b × IsUnset l.late b) ⊎ In b (drop l.c-index l.calls)
