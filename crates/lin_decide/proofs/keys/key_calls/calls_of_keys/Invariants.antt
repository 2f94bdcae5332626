use Rattle.std.proofs.Common.{◌≡◌, ◌<◌, ℕ, length}
use Rattle.std.specs.Prelude.{slice_index}
use Rattle.lin_decide.specs.Keys.Products.{AreCallsOf}
use Rattle.lin_decide.specs.Keys.Merging.{order_at}
use Rattle.lin_decide.proofs.keys.key_calls.calls_of_keys.Given as goal

-- the calls so far stand in the lists of their keys
abbrev pub invariant-loop-call : goal.invariant-loop-call
invariant-loop-call l = record {
  count : length l.lists.items ≡ l.count;
  calls : (k : ℕ) → k < l.count → AreCallsOf (slice_index l.numbers) l.call k (order_at l.lists.items k);
}
