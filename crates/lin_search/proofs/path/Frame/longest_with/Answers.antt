use Rattle.std.proofs.Common.{rules}
use Rattle.lin_search.proofs.path.Frame.longest_with.Goals as goal

pub returns-clause-longer : goal.returns-clause-longer
returns-clause-longer g c = search rules depth 3

pub returns-clause-not_longer : goal.returns-clause-not_longer
returns-clause-not_longer g c = search rules depth 3
