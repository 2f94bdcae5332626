use Rattle.std.proofs.Common.{ap, arith}
use Rattle.lin_ahead.specs.Queues.CountedRows.{called_until, back_until, lifted_among}
use Rattle.lin_ahead.proofs.queues.CountedLemmas.{too_early}
use Rattle.lin_ahead.proofs.queues.early_enqueues.is_too_early.Goals as goal

pub returns-then-are_lifted : goal.returns-then-are_lifted
returns-then-are_lifted c = λ yes.
    let set = c.args.config.now.lifted in
    let takers = ap (called_until c.args.event) c.as_slice.ensures.value in
    let puts = ap (lifted_among set) c.as_slice-2.ensures.value in
    let others = ap (lifted_among set) c.as_slice-then-are_lifted.ensures.value in
    let taken = ap (back_until c.args.event) c.as_slice-then-are_lifted-2.ensures.value in
    let count = c.count_called-takers.ensures in
    let enough = c.if-are_lifted.ensures in
    let back = c.count_back.ensures in
    let fewer = c.are_fewer_lifted.ensures yes in
    too_early c.args.calls.now set c.args.own.now c.args.other.now c.args.event c.requires.own c.requires.other
    (omega (arith, takers, puts, count, enough)) (omega (arith, others, taken, back, fewer))
