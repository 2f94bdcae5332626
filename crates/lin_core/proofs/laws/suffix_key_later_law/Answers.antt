use Rattle.lin_core.proofs.SuffixLemmas.{suffix_key_later_law}
use Rattle.lin_core.proofs.laws.suffix_key_later_law.Goals as goal

pub returns : goal.returns
returns c = suffix_key_later_law c.args.problem.now c.map_law.ensures
