use Rattle.std.proofs.Common.{rules}
use Rattle.lin_workers.proofs.workers.scouts.with_turn.Goals as goal

pub returns-then-longest-more-2 : goal.returns-then-longest-more-2
returns-then-longest-more-2 g c = search rules depth 3

pub returns-else-longest-more-2 : goal.returns-else-longest-more-2
returns-else-longest-more-2 g c = search rules depth 3
