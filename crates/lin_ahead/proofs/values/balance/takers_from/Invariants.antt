use Rattle.lin_ahead.proofs.values.BalanceLemmas.{AreTakersTo}
use Rattle.lin_ahead.proofs.values.balance.takers_from.Given as goal

abbrev pub invariant-loop-call : goal.invariant-loop-call
invariant-loop-call l = AreTakersTo l.calls l.rows l.makers l.call l.takers.items
