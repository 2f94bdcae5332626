use Rattle.std.proofs.Common.{rules, ◌≡◌, arith}
use Rattle.lin_ahead.proofs.queues.CountedLemmas.{left_behind}
use Rattle.lin_ahead.proofs.queues.early_enqueues.are_left.Goals as goal

pub returns : goal.returns
returns c = λ yes.
    let none : c.loop-from.left ≡ 0 = search rules in
    let so_far = c.loop-from.invariant.all in
    let behind = left_behind c.args.config.now.lifted c.loop-from.from c.args.these.now in
    omega (arith, none, so_far, behind)
