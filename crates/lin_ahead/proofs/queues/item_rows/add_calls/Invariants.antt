use Rattle.std.specs.Ordering.{int_eq}
use Rattle.indexmap.specs.IndexMap.{get}
use Rattle.lin_ahead.specs.Queues.ItemRows.{ArePlaced}
use Rattle.lin_ahead.proofs.queues.ItemRowLemmas.{HaveCallsTo}
use Rattle.lin_ahead.proofs.queues.item_rows.add_calls.Given as goal

abbrev pub invariant-loop-number : goal.invariant-loop-number
invariant-loop-number l = ArePlaced l.rows.items (get int_eq l.places) × HaveCallsTo l.calls l.rows.items l.number
