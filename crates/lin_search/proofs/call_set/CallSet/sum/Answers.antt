use Rattle.std.proofs.Common.{rules}
use Rattle.lin_search.proofs.call_set.CallSet.sum.Goals as goal

pub returns : goal.returns
returns c = search rules depth 3
