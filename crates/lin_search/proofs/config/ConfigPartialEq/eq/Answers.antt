use Rattle.std.proofs.Common.{rules}
use Rattle.lin_search.proofs.config.ConfigPartialEq.eq.Goals as goal

pub returns-then-eq : goal.returns-then-eq
returns-then-eq g c = search rules depth 3
