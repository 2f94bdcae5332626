use Rattle.std.proofs.Common.{◌≡◌, ◌+◌, ◌-◌, ◌≤◌, [], None, vec_len, vec_capacity, All}
use Rattle.lin_table.specs.Rule.{view}
use Rattle.lin_table.proofs.hand.deal.Given as goal

-- the first view still has the parts of the hands that are not made yet
abbrev pub invariant-loop : goal.invariant-loop
invariant-loop g l = record {
  same : l.first.table_id ≡ l.initial.first.table_id;
  me : l.first.me ≡ (view l.initial.first.me.0.problem (l.initial.count + 1 - l.counter) [] None, []);
  len : vec_len l.hands + 1 ≡ l.counter;
  room : l.initial.count ≤ vec_capacity l.hands;
  each : All (λ hand. hand ≡ record { table = l.initial.first.table_id; problem = l.initial.first.me.0.problem; entries = [] }) l.hands.items;
}
