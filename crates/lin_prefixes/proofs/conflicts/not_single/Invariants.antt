use Rattle.std.proofs.Common.{length, ◌≤◌}
use Rattle.lin_prefixes.proofs.conflicts.not_single.Given as goal

abbrev pub invariant-loop-c : goal.invariant-loop-c
invariant-loop-c l = length l.left.items ≤ l.c-index
