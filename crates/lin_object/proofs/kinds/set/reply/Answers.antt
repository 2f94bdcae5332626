use Rattle.std.proofs.Common.{rules}
use Rattle.lin_object.proofs.kinds.set.reply.Goals as goal

pub returns-in-Insert : goal.returns-in-Insert
returns-in-Insert c = search rules depth 3
