use Rattle.std.proofs.Common.{rules}
use Rattle.lin_object.proofs.items.Items.first.Goals as goal

pub returns : goal.returns
returns c = search rules depth 3
