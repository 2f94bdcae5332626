use Rattle.std.proofs.Common.{rules}
use Rattle.lin_object.proofs.kinds.mutex.step.Goals as goal

pub returns-in-TryLock-Some : goal.returns-in-TryLock-Some
returns-in-TryLock-Some c = search rules depth 3
