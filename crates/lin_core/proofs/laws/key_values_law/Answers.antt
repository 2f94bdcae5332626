use Rattle.lin_core.proofs.KeyValueLemmas.{key_values_law}
use Rattle.lin_core.proofs.laws.key_values_law.Goals as goal

pub returns : goal.returns
returns c = key_values_law c.map_law.ensures c.args.problem.now
