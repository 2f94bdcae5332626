use Rattle.lin_ahead.proofs.values.BalanceLemmas.{in_at}
use Rattle.lin_ahead.proofs.values.balance.is_maker.Goals as goal

pub returns : goal.returns
returns c = λ is. in_at c.args.makers.now c.partition_point.result c.args.call (c.is_at.ensures is)
