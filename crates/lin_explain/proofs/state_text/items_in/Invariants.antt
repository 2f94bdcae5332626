use Rattle.std.proofs.Common.{◌≡◌, ◌++◌, length}
use Rattle.lin_explain.proofs.state_text.items_in.Given as goal

abbrev pub invariant-loop-item : goal.invariant-loop-item
invariant-loop-item l = l.all.items ++ l.rest ≡ l.items

abbrev pub decreases-loop-item : goal.decreases-loop-item
decreases-loop-item l = length l.rest
