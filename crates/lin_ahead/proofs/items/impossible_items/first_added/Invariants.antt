use Rattle.std.proofs.Common.{◌≡◌, drop}
use Rattle.std.specs.Prelude.{ℤ}
use Rattle.std.specs.Ordering.{int_eq}
use Rattle.indexmap.specs.IndexMap.{get}
use Rattle.lin_ahead.specs.Items.Impossible.{added_from, first_added}
use Rattle.lin_ahead.proofs.items.impossible_items.first_added.Given as goal

-- the first event of each item so far, with the calls that are left
abbrev pub invariant-loop-made : goal.invariant-loop-made
invariant-loop-made l = (v : ℤ) → added_from (get int_eq l.added v) (drop l.made-index l.calls) v ≡ first_added l.calls v
