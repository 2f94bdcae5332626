use Rattle.std.proofs.Common.{◌≡◌, length}
use Rattle.lin_ahead.specs.Values.Writers.{AreRuns}
use Rattle.lin_ahead.proofs.values.writers.runs_each.Given as goal

abbrev pub invariant-loop-place : goal.invariant-loop-place
invariant-loop-place l = record {
  each : length l.runs.items ≡ l.place;
  runs : AreRuns l.calls l.rows l.runs.items;
}
