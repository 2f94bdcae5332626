use Rattle.std.proofs.Common.{rules}
use Rattle.lin_search.proofs.path.Path.pop.Goals as goal

pub returns-clause-none : goal.returns-clause-none
returns-clause-none g c = search rules depth 3
