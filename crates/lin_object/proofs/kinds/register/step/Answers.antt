use Rattle.std.proofs.Common.{rules}
use Rattle.lin_object.proofs.kinds.register.step.Goals as goal

pub returns-else-value-from : goal.returns-else-value-from
returns-else-value-from c = search rules depth 3

pub returns-in-Read : goal.returns-in-Read
returns-in-Read c = search rules depth 3
