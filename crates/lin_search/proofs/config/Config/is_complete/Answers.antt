use Rattle.std.proofs.Common.{rules}
use Rattle.lin_search.proofs.config.Config.is_complete.Goals as goal

pub returns-then-not-has : goal.returns-then-not-has
returns-then-not-has g c = search rules depth 3
