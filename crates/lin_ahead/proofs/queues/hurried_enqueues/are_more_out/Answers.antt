use Rattle.std.proofs.Common.{rules, ◌≡◌, ◌<◌, ◌∙◌, ap, arith, w64, to_z, of_z}
use Rattle.lin_ahead.specs.Queues.Hurried.{times_until}
use Rattle.lin_ahead.specs.Queues.CountedRows.{left_back_until, left_between}
use Rattle.lin_ahead.proofs.queues.CountedLemmas.{left_taken_are, left_between_are}
use Rattle.lin_ahead.proofs.queues.hurried_enqueues.are_more_out.Goals as goal

pub returns-then-since-event : goal.returns-then-since-event
returns-then-since-event c = λ yes.
    let calls = c.args.calls.now in
    let set = c.args.lying.now.config.now.lifted in
    let items = c.args.lying.now.items.now in
    let first = c.args.first.now in
    let row = c.args.row.now in
    let less : c.count_times.result < c.saturating_add.result = search rules in
    let sum = c.saturating_add.ensures in
    let item : to_z w64 (of_z w64 row.item) ≡ row.item = search rules in
    let other : to_z w64 (of_z w64 first.item) ≡ first.item = search rules in
    let lie = rw item at (c.count_times.ensures) in
    let until = rw (item, other) at (c.count_times_until-in_front.ensures) in
    let out = c.count_left_back-out.ensures ∙ ap (left_back_until set c.args.since) c.as_slice.ensures.value ∙ left_taken_are calls first c.requires.first set c.args.since in
    let in_front = ap (λ k. times_until row.item first.item k items) out in
    let more = c.count_left_between-more.ensures ∙ ap (left_between set c.args.since c.args.event) c.as_slice-2.ensures.value ∙ left_between_are calls row c.requires.row set c.args.since c.args.event in
    (c.args.since, c.if-since-event.true, (first.item, row.item, omega (arith, less, sum, lie, until, in_front, more)))
