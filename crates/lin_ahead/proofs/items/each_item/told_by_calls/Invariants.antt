use Rattle.std.proofs.Common.{◌≡◌, drop}
use Rattle.std.specs.Prelude.{ℤ}
use Rattle.std.specs.Ordering.{int_eq}
use Rattle.indexmap.specs.IndexMap.{get}
use Rattle.lin_ahead.specs.Items.ItemCalls.{told_in, told_from, told}
use Rattle.lin_ahead.proofs.items.each_item.told_by_calls.Given as goal

-- what is told of each item so far, with the calls that are left
abbrev pub invariant-loop-call : goal.invariant-loop-call
invariant-loop-call l = (v : ℤ) → told_from (told_in (get int_eq l.items) v) (drop l.call-index l.calls) v ≡ told l.calls v
