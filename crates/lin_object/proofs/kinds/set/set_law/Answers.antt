use Rattle.lin_object.proofs.kinds.SetLemmas.{set_keeps}
use Rattle.lin_object.proofs.kinds.set.set_law.Goals as goal

pub returns : goal.returns
returns c = set_keeps
