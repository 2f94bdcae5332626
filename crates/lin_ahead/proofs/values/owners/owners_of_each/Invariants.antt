use Rattle.std.proofs.Common.{◌≡◌, length}
use Rattle.lin_ahead.specs.Values.PossibleOwners.{AreOwnerRows}
use Rattle.lin_ahead.proofs.values.PossibleOwnerLemmas.{AreToldTo}
use Rattle.lin_ahead.proofs.values.owners.owners_of_each.Given as goal

abbrev pub invariant-loop-call : goal.invariant-loop-call
invariant-loop-call l = record {
  each : length l.rows.items ≡ l.call;
  told : AreOwnerRows l.calls l.start l.rows.items;
  few : AreToldTo l.calls l.call l.rows.items;
}
