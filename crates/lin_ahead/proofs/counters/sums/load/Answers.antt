use Rattle.std.proofs.Common.{arith}
use Rattle.lin_history.specs.Problems.AnyProblem.{any_problem}
use Rattle.lin_ahead.proofs.counters.SumLoadLemmas.{load_is}
use Rattle.lin_ahead.proofs.counters.sums.load.Goals as goal

pub returns : goal.returns
returns c =
    let one = c.saturating_add.ensures in
    let two = c.saturating_add-2.ensures in
    load_is (any_problem c.args.problem.now) c.args.config.now.lifted c.args.asked.up c.args.asked.get c.args.asked.call c.from-from.result c.max.result c.free_share-own.result c.rising_share-pending.result c.range_share-near.result c.saturating_add-2.result c.free_share-own.ensures c.rising_share-pending.ensures c.range_share-near.ensures (omega (arith, one, two))
