use Rattle.std.proofs.Common.{rules}
use Rattle.lin_object.proofs.pairs.Pairs.copy.Goals as goal

pub returns : goal.returns
returns c = search rules depth 3
