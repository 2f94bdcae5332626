use Rattle.std.proofs.Common.{rules}
use Rattle.lincheck.proofs.device.noted.Goals as goal

pub returns-in-Err-clause-failed : goal.returns-in-Err-clause-failed
returns-in-Err-clause-failed g c = search rules depth 3
