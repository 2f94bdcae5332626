use Rattle.std.proofs.Common.{◌≡◌, drop}
use Rattle.lin_ahead.specs.Items.ItemCalls.{pending_from, least_pending}
use Rattle.lin_ahead.proofs.items.item_calls.least_pending.Given as goal

-- the least so far and of the calls that are left
abbrev pub invariant-loop-call : goal.invariant-loop-call
invariant-loop-call l = pending_from l.least (drop l.call-index l.calls) ≡ least_pending l.calls
