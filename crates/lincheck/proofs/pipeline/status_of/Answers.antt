use Rattle.std.proofs.Common.{rules}
use Rattle.lincheck.proofs.pipeline.status_of.Goals as goal

pub returns-in-No : goal.returns-in-No
returns-in-No c = search rules depth 3
