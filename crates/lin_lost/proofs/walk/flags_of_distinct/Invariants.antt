use Rattle.lin_lost.proofs.WalkLemmas.{AreFlagged}
use Rattle.lin_lost.proofs.walk.flags_of_distinct.Given as goal

abbrev pub invariant-loop-call : goal.invariant-loop-call
invariant-loop-call l = AreFlagged l.flags.items l.calls l.count l.call-index
