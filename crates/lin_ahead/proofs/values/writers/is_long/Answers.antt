use Rattle.std.proofs.Common.{◌≡◌, rules, length, refl, subst, to_z, of_z, w64}
use Rattle.std.specs.Prelude.{ℤ}
use Rattle.std.proofs.lemmas.Option.{slice_get_read}
use Rattle.lin_ahead.specs.Values.PossibleOwners.{AreTooMany}
use Rattle.lin_ahead.proofs.values.WriterLemmas.{run_many}
use Rattle.lin_ahead.proofs.values.writers.is_long.Goals as goal

pub returns-then-run-gt-MOST_OWNERS : goal.returns-then-run-gt-MOST_OWNERS
returns-then-run-gt-MOST_OWNERS c =
    let rows = c.args.rows.now in
    let runs = c.args.runs.now in
    let same : to_z w64 (of_z w64 c.args.value) ≡ c.args.value = search rules in
    λ is. subst (λ (v : ℤ). AreTooMany c.args.calls.now v) same
    (run_many c.args.calls.now rows runs c.args.place c.in-Some.run'.now c.in-Some-get.row.now (to_z w64 (of_z w64 c.args.value)) c.requires
    (slice_get_read runs (length runs) c.args.place c.in-Some.run'.now refl c.in-Some.ensures.lookup.3.0 c.in-Some.ensures.lookup.1)
    (slice_get_read rows (length rows) c.args.place c.in-Some-get.row.now refl c.in-Some-get.ensures.lookup.3.0 c.in-Some-get.ensures.lookup.1)
    c.if-run-gt-MOST_OWNERS.true (c.writes.ensures.is is))
