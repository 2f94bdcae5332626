use Rattle.std.proofs.Common.{rules}
use Rattle.lin_history.proofs.locality.placed.WholeOrder.placed.Goals as goal

pub returns : goal.returns
returns c = search rules
