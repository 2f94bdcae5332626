use Rattle.std.proofs.Common.{◌≡◌}
use Rattle.lin_table.proofs.steps.take_out.Given as goal

abbrev pub invariant-loop : goal.invariant-loop
invariant-loop g l = record {
  same : l.token.table_id ≡ l.initial.token.table_id;
  me : l.token.me ≡ l.initial.token.me;
}
