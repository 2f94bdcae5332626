use Rattle.std.proofs.Common.{◌≡◌, length}
use Rattle.lin_ahead.specs.Stacks.ToldOfStack.{ArePoppers}
use Rattle.lin_ahead.proofs.stacks.rows.poppers_row.Given as goal

-- the row so far names such pops
abbrev pub invariant-loop-push : goal.invariant-loop-push
invariant-loop-push l = record {
  count : length l.row.items ≡ l.push;
  poppers : ArePoppers l.calls l.row.items;
}
