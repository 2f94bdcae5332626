use Rattle.std.proofs.Common.{rules}
use Rattle.lin_ahead.proofs.items.numbers.by_of.Goals as goal

pub returns-in-Dequeue-Some-default-Empty : goal.returns-in-Dequeue-Some-default-Empty
returns-in-Dequeue-Some-default-Empty c = search rules depth 3

pub returns-in_default : goal.returns-in_default
returns-in_default c = search rules depth 3

pub returns-in_default-2 : goal.returns-in_default-2
returns-in_default-2 c = search rules depth 3

pub returns-in_default-3 : goal.returns-in_default-3
returns-in_default-3 c = search rules depth 3
