use Rattle.std.proofs.Common.{◌≡◌, length}
use Rattle.lin_ahead.proofs.values.WriterLemmas.{AreUnderTo}
use Rattle.lin_ahead.proofs.values.writers.under_each.Given as goal

abbrev pub invariant-loop-place : goal.invariant-loop-place
invariant-loop-place l = record {
  each : length l.under.items ≡ l.place;
  none : AreUnderTo l.rows l.under.items;
}
