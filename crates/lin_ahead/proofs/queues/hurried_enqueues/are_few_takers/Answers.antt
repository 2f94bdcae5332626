use Rattle.std.proofs.Common.{rules, ◌≡◌, ◌≤◌, ap, arith, w64, to_z, of_z}
use Rattle.lin_ahead.specs.Queues.CountedRows.{left_until}
use Rattle.lin_ahead.proofs.queues.CountedLemmas.{left_takers_are}
use Rattle.lin_ahead.proofs.queues.hurried_enqueues.are_few_takers.Goals as goal

pub returns : goal.returns
returns c = λ yes.
    let set = c.args.lying.now.config.now.lifted in
    let few : c.count_left-takers.result ≤ c.count_times.result = search rules in
    let takers = c.count_left-takers.ensures in
    let list = ap (left_until set c.args.event) c.as_slice.ensures.value in
    let same = left_takers_are c.args.calls.now c.args.own.now c.requires set c.args.event in
    let item : to_z w64 (of_z w64 c.args.own.now.item) ≡ c.args.own.now.item = search rules in
    let lie = rw item at (c.count_times.ensures) in
    omega (arith, few, takers, list, same, lie)
