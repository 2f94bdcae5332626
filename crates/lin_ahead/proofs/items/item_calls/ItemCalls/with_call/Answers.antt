use Rattle.std.proofs.Common.{rules}
use Rattle.lin_ahead.proofs.items.item_calls.ItemCalls.with_call.Goals as goal

pub returns-in-Dequeue-Some : goal.returns-in-Dequeue-Some
returns-in-Dequeue-Some c = search rules depth 3

pub returns-in_default : goal.returns-in_default
returns-in_default c = search rules depth 3

pub returns-in_default-2 : goal.returns-in_default-2
returns-in_default-2 c = search rules depth 3
