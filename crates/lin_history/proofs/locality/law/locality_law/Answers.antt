use Rattle.lin_history.proofs.WholeLemmas.{locality_law}
use Rattle.lin_history.proofs.locality.law.locality_law.Goals as goal

pub returns : goal.returns
returns c = locality_law
