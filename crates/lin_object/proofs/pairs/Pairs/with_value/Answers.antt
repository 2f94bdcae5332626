use Rattle.std.proofs.Common.{rules}
use Rattle.lin_object.proofs.pairs.Pairs.with_value.Goals as goal

pub returns : goal.returns
returns c = search rules depth 3
