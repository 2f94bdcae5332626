use Rattle.std.proofs.Common.{rules}
use Rattle.lincheck.proofs.pipeline.refused.Goals as goal

pub returns : goal.returns
returns c = search rules depth 3
