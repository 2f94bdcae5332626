use Rattle.lin_ahead.proofs.queues.CountedLemmas.{row_more}
use Rattle.lin_ahead.proofs.queues.counted_rows.counted_rows.Goals as goal

pub loop-row-preserved : goal.loop-row-preserved
loop-row-preserved c = rw c.in_ok-push.ensures.items (row_more c.args.calls.now c.loop-row.counted.items c.in_ok-counted_row.field-0 c.loop-row.invariant c.in_ok-counted_row.ensures)
