use Rattle.std.proofs.Common.{◌≡◌, ◌-◌, ◌<◌, ◌≤◌, Some, length, arith}
use Rattle.std.specs.List.{slice_get}
use Rattle.std.specs.Prelude.{slice_index_or}
use Rattle.std.proofs.lemmas.Option.{slice_get-get_or}
use Rattle.lin_ahead.specs.Values.Writers.{NoneLater}
use Rattle.lin_ahead.proofs.values.WriterLemmas.{itself, under_more}
use Rattle.lin_ahead.proofs.values.writers.first_under.Goals as goal

pub loop-init : goal.loop-init
loop-init c = record { low = omega arith; none = itself c.args.rows.now c.args.place }

pub loop-preserved : goal.loop-preserved
loop-preserved c =
    let rows = c.args.rows.now in
    let first = c.loop.first in
    let low : first ≤ c.args.place = c.loop.invariant.low in
    let up : 0 < first = omega (arith, c.if-first-eq0.false) in
    let within : c.args.place < length rows = c.requires.place in
    let there : slice_get c.args.under.now (first - 1) ≡ Some (slice_index_or c.args.under.now (first - 1) 0) = slice_get-get_or c.args.under.now (first - 1) 0 (let n = c.requires.each in omega (arith, n, low, up)) in
    let k : (slice_index_or c.args.under.now (first - 1) 0 ≤ first - 1) × NoneLater rows (slice_index_or c.args.under.now (first - 1) 0) (first - 1) = c.requires.none (first - 1) (slice_index_or c.args.under.now (first - 1) 0) there in
    let less : slice_index_or c.args.under.now (first - 1) 0 ≤ first - 1 = k.0 in
    record {
      low = omega (arith, less, low);
      none = under_more rows first (slice_index_or c.args.under.now (first - 1) 0) c.args.place _ _ up low within c.if-rows-first.false less k.1 c.loop.invariant.none;
    }
