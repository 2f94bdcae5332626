use Rattle.lin_decide.proofs.keys.PlaceLemmas.{IsMergeAt}
use Rattle.lin_decide.proofs.keys.merge.merged.Given as goal

abbrev pub invariant-loop-call : goal.invariant-loop-call
invariant-loop-call l = IsMergeAt l.numbers l.orders l.places.items l.call l.merged.items
