use Rattle.std.proofs.Common.{◌≡◌, ◌<◌, ◌∙◌, false, length, sym, arith}
use Rattle.std.proofs.lemmas.List.{get_or_read}
use Rattle.lincheck.specs.Report.{is_placed}
use Rattle.lincheck.proofs.ReportLemmas.{drops_more, drops_skip, call_at}
use Rattle.lincheck.proofs.lines.write_drops.Goals as goal
use Rattle.lincheck.proofs.lines.write_drops.Goals.{then-not-index+in_ok-write_dropped, else-not-index}

pub loop-index-preserved : goal.loop-index-preserved
loop-index-preserved c =
    let within : c.loop-index.index < length c.args.history.now.calls = omega (arith, c.loop-index-test.true, c.call_count-index-end.ensures.count) in
    let in_flags : c.loop-index.index < length c.in_ok-flags.flags.items = omega (arith, within, c.in_ok-flags.ensures.count, c.in_ok-flags.flags.ok.0) in
    let there = call_at c.args.history.now c.loop-index.index within in
    let flag : c.index.result.now ≡ is_placed c.args.order.now c.loop-index.index = get_or_read c.in_ok-flags.flags.items c.loop-index.index c.index.result.now in_flags c.index.ensures false ∙ c.in_ok-flags.ensures.flags c.loop-index.index within in
    elim c.if-not-index.branch [
      | then-not-index+in_ok-write_dropped w ↦
          rw w.out-is (drops_more _ _ _ _ _ c.loop-index.index there.0 there.1 c.loop-index.invariant (sym flag ∙ w.if-not-index.true) (w.in_ok-write_dropped.ensures there.0 there.1))
      | else-not-index w ↦
          rw w.out-is (drops_skip _ _ _ _ c.loop-index.index there.0 there.1 c.loop-index.invariant (sym flag ∙ w.if-not-index.false))
    ]
