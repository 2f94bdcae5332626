use Rattle.std.proofs.Common.{◌≡◌, ◌++◌}
use Rattle.lin_ahead.specs.Queues.Queue.{Item}
use Rattle.lin_ahead.proofs.stacks.takers.items_above.Given as goal

-- the items so far lie above those that are left, and the item is not among them
abbrev pub invariant-loop : goal.invariant-loop
invariant-loop l = record {
  whole : l.items ≡ l.above ++ l.rest;
  apart : Item l.item l.above → ⊥;
}
