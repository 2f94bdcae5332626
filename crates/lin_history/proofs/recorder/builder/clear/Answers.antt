use Rattle.std.proofs.Common.{◌≤◌, length, arith}
use Rattle.lin_history.proofs.RecorderLemmas.NumberingLemmas.{clear_none, clear_next, clear_all}
use Rattle.lin_history.proofs.recorder.builder.clear.Goals as goal

pub loop-index-init : goal.loop-index-init
loop-index-init c = clear_none c.args.counts.now

pub loop-index-preserved : goal.loop-index-preserved
loop-index-preserved c = clear_next c.loop-index.counts c.loop-index.index c.loop-index.invariant

pub returns-clause-zero : goal.returns-clause-zero
returns-clause-zero c =
    let over : length c.loop-index.counts ≤ c.loop-index.index = (let same = c.loop-index.auto.counts in let past = c.loop-index-test.false in omega (arith, same, past)) in
    clear_all c.loop-index.counts c.loop-index.index over c.loop-index.invariant
