use Rattle.std.proofs.Common.{rules}
use Rattle.lin_object.proofs.kinds.queue.step.Goals as goal

pub returns-in_ok-longer-in-Enqueue : goal.returns-in_ok-longer-in-Enqueue
returns-in_ok-longer-in-Enqueue c = search rules depth 3
