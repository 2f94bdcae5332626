use Rattle.std.proofs.Common.{◌≡◌, ◌<◌, ℕ, length}
use Rattle.lin_history.specs.Problems.AnyProblem.{any_problem}
use Rattle.lin_decide.specs.Keys.Merging.{order_at}
use Rattle.lin_decide.specs.Keys.PartOrder.{IsFullOrder}
use Rattle.lin_decide.proofs.keys.part_orders.orders_of_parts.Given as goal

-- each part so far has a full order, and the stop was asked
abbrev pub invariant-loop-key : goal.invariant-loop-key
invariant-loop-key g l = record {
  stop : g.S.Stop.follows l.initial.stop l.stop;
  count : length l.orders.items ≡ l.key;
  each : (k : ℕ) → k < l.key → IsFullOrder (any_problem l.problem) (order_at l.lists k) (order_at l.orders.items k);
}
