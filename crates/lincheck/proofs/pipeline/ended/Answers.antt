use Rattle.std.proofs.Common.{rules}
use Rattle.lincheck.proofs.pipeline.ended.Goals as goal

pub returns-in-Err : goal.returns-in-Err
returns-in-Err c = search rules depth 3
