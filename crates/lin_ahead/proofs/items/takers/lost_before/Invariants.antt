use Rattle.lin_ahead.specs.Items.Takers.{queue_of, AreLostBefore}
use Rattle.lin_ahead.proofs.items.takers.lost_before.Given as goal

-- so it is of those found so far
abbrev pub invariant-loop-call : goal.invariant-loop-call
invariant-loop-call l = AreLostBefore (queue_of l.calls) l.after.config.now.lifted l.after.call l.after.items.now l.other l.found.items
