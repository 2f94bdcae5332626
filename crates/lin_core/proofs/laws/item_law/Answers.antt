use Rattle.lin_core.proofs.OneItemLemmas.{item_law}
use Rattle.lin_core.proofs.laws.item_law.Goals as goal

pub returns : goal.returns
returns c = item_law c.args.problem.now
