use Rattle.std.proofs.Common.{rules}
use Rattle.lin_ahead.proofs.items.item_calls.one_more.Goals as goal

pub returns-in-One : goal.returns-in-One
returns-in-One c = search rules depth 3
