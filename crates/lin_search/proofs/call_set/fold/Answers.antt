use Rattle.std.proofs.Common.{rules}
use Rattle.lin_search.specs.CallSet.{folded}
use Rattle.lin_search.proofs.call_set.fold.Goals as goal

pub returns : goal.returns
unfolding folded
returns c = search rules
