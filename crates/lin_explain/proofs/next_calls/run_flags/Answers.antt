use Rattle.std.proofs.Common.{◌∙◌, get_or, arith}
use Rattle.std.proofs.Math.ListN.{length-set}
use Rattle.lin_explain.proofs.ListLemmas.{in_at}
use Rattle.lin_explain.proofs.NextLemmas.{flags_more, flags_done}
use Rattle.lin_explain.proofs.next_calls.run_flags.Goals as goal

pub index_mut-requires : goal.index_mut-requires
index_mut-requires c =
    let within = c.requires _ (in_at c.args.run.now c.loop-number.number-index c.loop-number-test.true) in
    omega (arith, within, c.loop-number.invariant.count, c.loop-number.flags.ok.0)

pub loop-number-preserved : goal.loop-number-preserved
loop-number-preserved c =
    let within = c.requires _ (in_at c.args.run.now c.loop-number.number-index c.loop-number-test.true) in
    record {
      count = length-set c.loop-number.flags.items (get_or c.args.run.now c.loop-number.number-index 0) _ ∙ c.loop-number.invariant.count;
      flags = flags_more c.args.run.now c.loop-number.flags.items c.loop-number.number-index c.loop-number-test.true (omega (arith, within, c.loop-number.invariant.count)) c.loop-number.invariant.flags;
    }

pub returns-clause-flags : goal.returns-clause-flags
returns-clause-flags c = flags_done c.args.run.now c.loop-number.flags.items c.loop-number.number-index c.loop-number-test.false c.loop-number.invariant.flags
