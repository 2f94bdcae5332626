use Rattle.lin_core.proofs.SuffixLemmas.{suffix_values_law}
use Rattle.lin_core.proofs.laws.suffix_values_law.Goals as goal

pub returns : goal.returns
returns c = suffix_values_law c.args.problem.now c.set_law.ensures c.map_law.ensures
