use Rattle.std.proofs.Common.{rules}
use Rattle.lincheck.proofs.device.StdSinkSink.write.Goals as goal

pub returns-clause-bytes : goal.returns-clause-bytes
returns-clause-bytes g c = search rules depth 3

pub returns-clause-bound : goal.returns-clause-bound
returns-clause-bound g c = search rules depth 3
