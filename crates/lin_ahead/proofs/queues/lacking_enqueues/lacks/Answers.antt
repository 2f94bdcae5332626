use Rattle.std.proofs.Common.{rules, ◌<◌, ap, arith}
use Rattle.lin_ahead.specs.Queues.CountedRows.{called_until, back_until}
use Rattle.lin_ahead.proofs.queues.CountedLemmas.{lacks}
use Rattle.lin_ahead.proofs.queues.lacking_enqueues.lacks.Goals as goal

pub returns : goal.returns
returns c = λ less.
    let few : c.count_called.result < c.count_back.result = search rules in
    let a = ap (called_until c.args.event) c.as_slice.ensures.value in
    let b = ap (back_until c.args.event) c.as_slice-2.ensures.value in
    let e = c.count_called.ensures in
    let f = c.count_back.ensures in
    lacks c.args.calls.now c.args.row.now c.requires c.args.event (omega (arith, few, a, b, e, f))
