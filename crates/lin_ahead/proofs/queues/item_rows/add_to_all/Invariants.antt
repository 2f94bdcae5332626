use Rattle.lin_ahead.proofs.queues.ItemRowLemmas.{AreAfterTo}
use Rattle.lin_ahead.proofs.queues.item_rows.add_to_all.Given as goal

abbrev pub invariant-loop-place : goal.invariant-loop-place
invariant-loop-place l = AreAfterTo l.call l.initial.rows.items l.rows.items l.place
