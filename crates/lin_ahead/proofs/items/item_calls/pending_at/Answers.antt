use Rattle.std.proofs.Common.{rules}
use Rattle.lin_ahead.proofs.items.item_calls.pending_at.Goals as goal

pub returns-in-Dequeue-None : goal.returns-in-Dequeue-None
returns-in-Dequeue-None c = search rules depth 3
