use Rattle.std.proofs.Common.{◌≡◌, ◌≤◌, ◌+◌, drop}
use Rattle.lin_ahead.specs.Queues.CountedRows.{back_until}
use Rattle.lin_ahead.proofs.queues.early_enqueues.count_back.Given as goal

-- those so far, with those of the calls that are left; and they are at most as many as the calls so far
abbrev pub invariant-loop-one : goal.invariant-loop-one
invariant-loop-one l = record {
  all : back_until l.event (drop l.one-index l.these) + l.count ≡ back_until l.event l.these;
  few : l.count ≤ l.one-index;
}
