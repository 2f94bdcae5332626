use Rattle.std.proofs.Common.{rules}
use Rattle.lin_object.proofs.op.read_op.Goals as goal

pub returns-then-not-is_op : goal.returns-then-not-is_op
returns-then-not-is_op c = search rules depth 3
