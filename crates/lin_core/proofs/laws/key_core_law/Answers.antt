use Rattle.lin_core.proofs.CoreLemmas.{key_core_law}
use Rattle.lin_core.proofs.laws.key_core_law.Goals as goal

pub returns : goal.returns
returns c = key_core_law c.map_law.ensures c.args.problem.now
