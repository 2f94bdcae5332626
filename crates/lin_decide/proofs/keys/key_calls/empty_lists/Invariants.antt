use Rattle.std.proofs.Common.{◌≡◌, ℕ, [], length}
use Rattle.lin_decide.specs.Keys.Merging.{order_at}
use Rattle.lin_decide.proofs.keys.key_calls.empty_lists.Given as goal

abbrev pub invariant-loop : goal.invariant-loop
invariant-loop l = record {
  count : length l.lists.items ≡ l.counter;
  empty : (k : ℕ) → order_at l.lists.items k ≡ [];
}
