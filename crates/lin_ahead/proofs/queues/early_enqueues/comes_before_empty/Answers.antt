use Rattle.std.proofs.Common.{rules, ap, arith}
use Rattle.lin_ahead.specs.Queues.Slots.{FoundEmptyBy}
use Rattle.lin_ahead.specs.Queues.CountedRows.{called_until, lifted_among}
use Rattle.lin_ahead.proofs.queues.CountedLemmas.{before_empty}
use Rattle.lin_ahead.proofs.queues.early_enqueues.comes_before_empty.Goals as goal

pub returns-then-found_empty_by : goal.returns-then-found_empty_by
returns-then-found_empty_by c = λ yes.
    let set = c.args.config.now.lifted in
    let takers = ap (called_until c.args.event) c.as_slice-then-found_empty_by.ensures.value in
    let puts = ap (lifted_among set) c.as_slice.ensures.value in
    let count = c.count_called.ensures in
    let enough = c.are_lifted.ensures yes in
    let empty : FoundEmptyBy c.args.calls.now set c.args.event c.args.empty = c.if-found_empty_by.ensures (search rules) in
    before_empty c.args.calls.now set c.args.own.now c.args.event c.args.empty c.requires empty (omega (arith, takers, puts, count, enough))
