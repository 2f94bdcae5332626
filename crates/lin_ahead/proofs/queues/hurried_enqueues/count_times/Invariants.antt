use Rattle.std.proofs.Common.{◌≡◌, ◌≤◌, ◌+◌, drop}
use Rattle.lin_ahead.specs.Queues.Hurried.{times}
use Rattle.lin_ahead.proofs.queues.hurried_enqueues.count_times.Given as goal

-- those so far, with those that are left; and they are at most as many as the items so far
abbrev pub invariant-loop-lying : goal.invariant-loop-lying
invariant-loop-lying l = record {
  all : times l.item (drop l.lying-index l.items) + l.count ≡ times l.item l.items;
  few : l.count ≤ l.lying-index;
}
