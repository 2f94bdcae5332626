use Rattle.std.proofs.Common.{rules}
use Rattle.lin_search.proofs.config.ConfigHash.hash.Goals as goal

pub returns : goal.returns
returns g c = search rules depth 3
