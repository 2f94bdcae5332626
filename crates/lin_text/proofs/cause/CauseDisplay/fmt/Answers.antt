use Rattle.std.proofs.Common.{rules}
use Rattle.lin_text.proofs.cause.CauseDisplay.fmt.Goals as goal

pub returns-in-BadStart-clause-writes : goal.returns-in-BadStart-clause-writes
returns-in-BadStart-clause-writes c = search rules depth 3
