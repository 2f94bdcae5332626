use Rattle.std.proofs.Common.{map, sym, subst, take}
use Rattle.lincheck.specs.CommandLine.{HasOptions, option_of}
use Rattle.lincheck.proofs.CommandLineLemmas.{has_more, rows_more}
use Rattle.lincheck.proofs.request.line_with.Goals as goal

pub loop-row-preserved : goal.loop-row-preserved
loop-row-preserved c =
    subst (λ os. HasOptions os c.in_ok-line.line) (sym (rows_more c.args.rows.now c.loop-row.row-index _ c.loop-row-test.true))
    (has_more (map option_of (take c.loop-row.row-index c.args.rows.now)) _ c.loop-row.line c.in_ok-line.line c.argument.result c.loop-row.invariant c.in_ok-line.ensures c.argument.ensures)
