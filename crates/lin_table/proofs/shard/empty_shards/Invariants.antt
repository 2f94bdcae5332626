use Rattle.std.proofs.Common.{◌≡◌, ◌≤◌, [], replicate, vec_len, vec_capacity}
use Rattle.lin_table.proofs.shard.empty_shards.Given as goal

abbrev pub invariant-loop : goal.invariant-loop
invariant-loop g l = record {
  items : l.shards.items ≡ replicate l.counter (record { problem = l.initial.problem; pairs = [] });
  len : vec_len l.shards ≡ l.counter;
  room : l.initial.count ≤ vec_capacity l.shards;
}
