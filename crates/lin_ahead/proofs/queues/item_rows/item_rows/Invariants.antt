use Rattle.std.specs.Ordering.{int_eq}
use Rattle.indexmap.specs.IndexMap.{get}
use Rattle.lin_ahead.specs.Queues.ItemRows.{ArePlaced, AreEmpty}
use Rattle.lin_ahead.proofs.queues.item_rows.item_rows.Given as goal

abbrev pub invariant-loop-item : goal.invariant-loop-item
invariant-loop-item l = ArePlaced l.rows.items (get int_eq l.places) × AreEmpty l.rows.items
