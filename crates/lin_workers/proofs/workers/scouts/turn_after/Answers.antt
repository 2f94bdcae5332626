use Rattle.std.proofs.Common.{rules}
use Rattle.lin_workers.proofs.workers.scouts.turn_after.Goals as goal

pub returns-else-is_up : goal.returns-else-is_up
returns-else-is_up g c = search rules depth 3
