use Rattle.lin_object.proofs.kinds.MapLemmas.{map_keeps}
use Rattle.lin_object.proofs.kinds.map.map_law.Goals as goal

pub returns : goal.returns
returns c = map_keeps
