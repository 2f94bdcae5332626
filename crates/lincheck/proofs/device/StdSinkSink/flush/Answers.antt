use Rattle.std.proofs.Common.{rules}
use Rattle.lincheck.proofs.device.StdSinkSink.flush.Goals as goal

pub returns-clause-failed : goal.returns-clause-failed
returns-clause-failed g c = search rules depth 3
