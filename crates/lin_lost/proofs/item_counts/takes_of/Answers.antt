use Rattle.std.proofs.Common.{arith}
use Rattle.lin_lost.specs.Counts.{item_given}
use Rattle.lin_lost.proofs.CountLemmas.{often_few}
use Rattle.lin_lost.proofs.item_counts.takes_of.Goals as goal

pub add_one-requires : goal.add_one-requires
add_one-requires c = λ v.
    let all = c.loop-call.invariant v in
    let few = often_few (λ x. item_given x.op x.returned) c.args.calls.now v in
    let most = c.requires in
    omega (arith, all, few, most)
