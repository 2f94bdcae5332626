use Rattle.std.proofs.Common.{arith}
use Rattle.std.proofs.lemmas.Grind.{common_steps}
use Rattle.lin_search.proofs.call_set.clear_bit.Goals as goal

pub returns : goal.returns
returns c = grind (arith, common_steps)
