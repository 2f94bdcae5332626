use Rattle.std.proofs.Common.{ap}
use Rattle.lin_table.proofs.table.Table.is_for.Goals as goal

pub returns : goal.returns
returns g c = rw (ap (λ t. t.problem) c.self.view_is) at c.same.ensures
