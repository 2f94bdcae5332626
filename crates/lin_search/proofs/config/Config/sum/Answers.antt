use Rattle.std.proofs.Common.{rules}
use Rattle.lin_search.proofs.config.Config.sum.Goals as goal

pub returns : goal.returns
returns g c = search rules depth 3
