use Rattle.lin_ahead.proofs.values.NarrowedLemmas.{LeftTo}
use Rattle.lin_ahead.proofs.values.narrowing.owners_left.Given as goal

abbrev pub invariant-loop-at : goal.invariant-loop-at
invariant-loop-at l = LeftTo l.calls l.rows l.call l.at l.owners l.left.items
