use Rattle.std.proofs.Common.{◌≡◌, ◌≤◌, drop}
use Rattle.lin_ahead.specs.Items.Takers.{queue_of, left_from}
use Rattle.lin_ahead.proofs.items.takers.count_left.Given as goal

-- those so far, with those of the calls that are left; and they are at most as many as the calls so far
abbrev pub invariant-loop-taker : goal.invariant-loop-taker
invariant-loop-taker l = record {
  all : left_from (queue_of l.calls) l.after.config.now.lifted l.after.call l.event l.count (drop l.taker-index l.takers) ≡ left_from (queue_of l.calls) l.after.config.now.lifted l.after.call l.event 0 l.takers;
  few : l.count ≤ l.taker-index;
}
