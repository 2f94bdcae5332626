use Rattle.std.proofs.Common.{rules}
use Rattle.lin_object.proofs.op.write_op.Goals as goal

pub returns-clause-ok : goal.returns-clause-ok
returns-clause-ok c = search rules depth 3
