use Rattle.lin_core.proofs.SuffixCoreLemmas.{suffix_core_law}
use Rattle.lin_core.proofs.laws.suffix_core_law.Goals as goal

pub returns : goal.returns
returns c = suffix_core_law c.set_law.ensures c.map_law.ensures c.args.problem.now
