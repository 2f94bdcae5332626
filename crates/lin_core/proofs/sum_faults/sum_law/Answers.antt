use Rattle.lin_core.proofs.SumLemmas.{sum_law}
use Rattle.lin_core.proofs.sum_faults.sum_law.Goals as goal

pub returns : goal.returns
returns c = sum_law c.args.problem.now
