use Rattle.std.proofs.Common.{rules}
use Rattle.lin_search.proofs.config.is_minimal.Goals as goal

pub returns-then-follows_earlier : goal.returns-then-follows_earlier
returns-then-follows_earlier g c = search rules depth 3
