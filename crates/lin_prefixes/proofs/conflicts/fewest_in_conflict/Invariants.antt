use Rattle.std.proofs.Common.{◌≤◌, ◌-◌, length}
use Rattle.lin_prefixes.proofs.conflicts.fewest_in_conflict.Given as goal

abbrev pub invariant-loop-low : goal.invariant-loop-low
invariant-loop-low g l = l.high ≤ length l.calls

abbrev pub decreases-loop-low : goal.decreases-loop-low
decreases-loop-low g l = l.high - l.low
