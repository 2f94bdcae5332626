use Rattle.lin_ahead.specs.Queues.CountedRows.{AreCountedRows}
use Rattle.lin_ahead.proofs.queues.counted_rows.counted_rows.Given as goal

abbrev pub invariant-loop-row : goal.invariant-loop-row
invariant-loop-row l = AreCountedRows l.calls l.counted.items
