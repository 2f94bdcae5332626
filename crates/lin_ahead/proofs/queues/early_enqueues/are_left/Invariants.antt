use Rattle.std.proofs.Common.{◌≡◌, ◌≤◌, ◌+◌, drop, length}
use Rattle.lin_ahead.specs.Queues.CountedRows.{left_among}
use Rattle.lin_ahead.proofs.queues.early_enqueues.are_left.Given as goal

-- what is still looked for, with what is left among the calls from here on, is all that is looked for
abbrev pub invariant-loop-from : goal.invariant-loop-from
invariant-loop-from l = record {
  all : left_among l.config.lifted (drop l.from l.these) + l.left ≡ l.many;
  within : l.from ≤ length l.these;
}

abbrev pub decreases-loop-from : goal.decreases-loop-from
decreases-loop-from l = l.from
