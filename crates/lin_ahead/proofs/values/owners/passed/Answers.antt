use Rattle.std.proofs.Common.{◌-◌, ◌<◌, inl, inr, length, arith}
use Rattle.std.proofs.lemmas.Option.{slice_get_within}
use Rattle.lin_ahead.proofs.values.PossibleOwnerLemmas.{got, none_under, none_at}
use Rattle.lin_ahead.proofs.values.owners.passed.Goals as goal
use Rattle.lin_ahead.proofs.values.owners.passed.Goals.{then-row-finder-via-then-row-finder, then-row-finder-via-else-row-finder+then-finder-row}

pub returns-then-row-since : goal.returns-then-row-since
returns-then-row-since c =
    let rows = c.args.writers.now.rows.items in
    let under = c.args.writers.now.under.items in
    let within : c.args.place - 1 < length under = (let a = slice_get_within rows (c.args.place - 1) c.args.row c.requires.row in let b = c.requires.under.each in omega (arith, a, b)) in
    none_under c.args.calls.now c.args.finder.now rows under c.args.place c.args.since c.args.row c.index.result.now c.requires.first c.requires.under c.requires.finder c.requires.since c.requires.row (got c.args.calls.now under (c.args.place - 1) c.index.result.now within c.index.ensures) c.if-row-since.true

pub returns-then-row-finder : goal.returns-then-row-finder
returns-then-row-finder c =
    none_at c.args.calls.now c.args.finder.now c.args.writers.now.rows.items c.args.place c.args.row c.requires.first c.requires.finder c.requires.row
    (elim c.then-row-finder.branch [
      | then-row-finder-via-then-row-finder w ↦ inl w.if-row-finder.true
      | then-row-finder-via-else-row-finder+then-finder-row w ↦ inr w.if-finder-row.true
    ])
