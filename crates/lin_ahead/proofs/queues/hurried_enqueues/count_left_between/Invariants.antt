use Rattle.std.proofs.Common.{◌≡◌, ◌≤◌, ◌+◌, drop}
use Rattle.lin_ahead.specs.Queues.CountedRows.{left_between}
use Rattle.lin_ahead.proofs.queues.hurried_enqueues.count_left_between.Given as goal

-- those so far, with those of the calls that are left; and they are at most as many as the calls so far
abbrev pub invariant-loop-one : goal.invariant-loop-one
invariant-loop-one l = record {
  all : left_between l.config.lifted l.since l.event (drop l.one-index l.these) + l.count ≡ left_between l.config.lifted l.since l.event l.these;
  few : l.count ≤ l.one-index;
}
