use Rattle.std.proofs.Common.{◌-◌, length}
use Rattle.lin_decide.proofs.keys.PlaceLemmas.{IsTaking}
use Rattle.lin_decide.proofs.keys.merge.take_up_to.Given as goal

abbrev pub invariant-loop-merged : goal.invariant-loop-merged
invariant-loop-merged l = IsTaking l.order l.place l.call l.fn.merged.items l.merged.items l.next

abbrev pub decreases-loop-merged : goal.decreases-loop-merged
decreases-loop-merged l = length l.order - l.next
