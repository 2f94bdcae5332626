use Rattle.lin_object.proofs.kinds.StackLemmas.{stack_keeps}
use Rattle.lin_object.proofs.kinds.stack.stack_law.Goals as goal

pub returns : goal.returns
returns c = stack_keeps
