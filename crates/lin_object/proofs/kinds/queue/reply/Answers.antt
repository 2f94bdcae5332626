use Rattle.std.proofs.Common.{rules}
use Rattle.lin_object.proofs.kinds.queue.reply.Goals as goal

pub returns-in-Dequeue : goal.returns-in-Dequeue
returns-in-Dequeue c = search rules depth 3
