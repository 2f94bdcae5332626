use Rattle.std.proofs.Common.{rules}
use Rattle.lin_history.proofs.problems.order.Order.new.Goals as goal

pub returns : goal.returns
returns c = search rules
