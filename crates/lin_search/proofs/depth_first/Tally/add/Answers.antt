use Rattle.std.proofs.Common.{rules}
use Rattle.lin_search.proofs.depth_first.Tally.add.Goals as goal

pub returns-clause-whole : goal.returns-clause-whole
returns-clause-whole c = search rules depth 3
