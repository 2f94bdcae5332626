use Rattle.std.proofs.Common.{length}
use Rattle.lin_prefixes.proofs.conflicts.+add_single_conflicts.Given as goal

abbrev pub decreases-add_single_conflicts : goal.decreases-add_single_conflicts
decreases-add_single_conflicts g l = length l.calls.now
