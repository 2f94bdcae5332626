use Rattle.std.proofs.Common.{◌≡◌, ◌++◌, length}
use Rattle.lin_ahead.proofs.queues.hurried_enqueues.listed.Given as goal

-- those so far, with those that are left
abbrev pub invariant-loop-item : goal.invariant-loop-item
invariant-loop-item l = l.list.items ++ l.rest ≡ l.items

abbrev pub decreases-loop-item : goal.decreases-loop-item
decreases-loop-item l = length l.rest
