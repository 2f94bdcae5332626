use Rattle.std.proofs.Common.{rules}
use Rattle.lin_table.proofs.table.Table.misses_hands.Goals as goal

pub returns : goal.returns
returns g c = search rules depth 3
