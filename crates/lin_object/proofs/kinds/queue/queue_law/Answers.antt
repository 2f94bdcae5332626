use Rattle.lin_object.proofs.kinds.QueueLemmas.{queue_keeps}
use Rattle.lin_object.proofs.kinds.queue.queue_law.Goals as goal

pub returns : goal.returns
returns c = queue_keeps
