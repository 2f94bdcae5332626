use Rattle.lin_object.proofs.kinds.MutexLemmas.{mutex_keeps}
use Rattle.lin_object.proofs.kinds.mutex.mutex_law.Goals as goal

pub returns : goal.returns
returns c = mutex_keeps
