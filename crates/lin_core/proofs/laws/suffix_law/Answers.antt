use Rattle.lin_core.proofs.SuffixLemmas.{suffix_law}
use Rattle.lin_core.proofs.laws.suffix_law.Goals as goal

pub returns : goal.returns
returns g c = suffix_law c.lawful.ensures c.args.problem.now
