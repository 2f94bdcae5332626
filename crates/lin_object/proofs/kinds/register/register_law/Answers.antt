use Rattle.lin_object.proofs.kinds.RegisterLemmas.{register_keeps}
use Rattle.lin_object.proofs.kinds.register.register_law.Goals as goal

pub returns : goal.returns
returns c = register_keeps
