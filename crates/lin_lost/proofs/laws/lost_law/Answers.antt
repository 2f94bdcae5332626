use Rattle.lin_lost.proofs.LostLemmas.{lost_law}
use Rattle.lin_lost.proofs.laws.lost_law.Goals as goal

pub returns : goal.returns
returns c = lost_law c.args.problem.now
