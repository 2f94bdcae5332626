use Rattle.std.proofs.Common.{rules}
use Rattle.lin_search.proofs.entries.row_of.Goals as goal

pub returns-clause-row : goal.returns-clause-row
returns-clause-row c = search rules depth 3
