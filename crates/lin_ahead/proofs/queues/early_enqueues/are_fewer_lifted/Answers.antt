use Rattle.std.proofs.Common.{arith}
use Rattle.lin_ahead.proofs.queues.CountedLemmas.{lifted_and_left}
use Rattle.lin_ahead.proofs.queues.early_enqueues.are_fewer_lifted.Goals as goal

pub returns-then-many-gt0 : goal.returns-then-many-gt0
returns-then-many-gt0 c = λ yes.
    let left = c.are_left.ensures yes in
    let all = lifted_and_left c.args.config.now.lifted c.args.these.now in
    let some = c.if-many-gt0.true in
    let of = c.saturating_sub.ensures in
    omega (arith, left, all, some, of)
