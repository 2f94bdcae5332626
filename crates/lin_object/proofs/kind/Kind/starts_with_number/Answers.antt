use Rattle.std.proofs.Common.{rules}
use Rattle.lin_object.proofs.kind.Kind.starts_with_number.Goals as goal

pub returns-in-Queue : goal.returns-in-Queue
returns-in-Queue c = search rules depth 3
