use Rattle.std.proofs.Common.{rules}
use Rattle.lin_search.specs.CallSet.{weight_of}
use Rattle.lin_search.proofs.call_set.weight.Goals as goal

pub returns : goal.returns
unfolding weight_of
returns c = search rules
