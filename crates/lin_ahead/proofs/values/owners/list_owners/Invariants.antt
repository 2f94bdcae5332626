use Rattle.std.proofs.Common.{◌≤◌, length}
use Rattle.lin_ahead.specs.Values.Writers.{IsSince, AreListedFrom}
use Rattle.lin_ahead.proofs.values.owners.list_owners.Given as goal

abbrev pub invariant-loop : goal.invariant-loop
invariant-loop l = record {
  within : l.place ≤ length l.writers.rows.items;
  since : IsSince l.calls l.finder l.sought.since;
  listed : AreListedFrom l.calls l.finder l.writers.rows.items l.place l.owners.items;
}
