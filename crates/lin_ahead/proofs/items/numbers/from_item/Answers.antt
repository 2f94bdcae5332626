use Rattle.std.proofs.Common.{rules}
use Rattle.lin_ahead.proofs.items.numbers.from_item.Goals as goal

pub returns-then-told : goal.returns-then-told
returns-then-told c = search rules depth 3

pub returns-else-goes_in_once : goal.returns-else-goes_in_once
returns-else-goes_in_once c = search rules depth 3
