use Rattle.std.proofs.Common.{rules}
use Rattle.lin_object.proofs.kinds.register.op_with.Goals as goal

pub returns-in-cas-len2 : goal.returns-in-cas-len2
returns-in-cas-len2 c = search rules depth 3
