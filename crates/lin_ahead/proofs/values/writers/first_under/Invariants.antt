use Rattle.std.proofs.Common.{◌≤◌}
use Rattle.lin_ahead.specs.Values.Writers.{NoneLater}
use Rattle.lin_ahead.proofs.values.writers.first_under.Given as goal

abbrev pub invariant-loop : goal.invariant-loop
invariant-loop l = record {
  low : l.first ≤ l.place;
  none : NoneLater l.rows l.first l.place;
}
