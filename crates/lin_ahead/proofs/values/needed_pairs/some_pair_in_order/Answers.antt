use Rattle.std.proofs.Common.{refl}
use Rattle.lin_ahead.proofs.values.PairLemmas.{pass_is}
use Rattle.lin_ahead.proofs.values.needed_pairs.some_pair_in_order.Goals as goal

pub loop-next-init : goal.loop-next-init
loop-next-init c = pass_is _ refl refl c.args.numbers.now c.requires
