use Rattle.std.proofs.Common.{rules}
use Rattle.lincheck.proofs.device.taken.Goals as goal

pub returns-in-Ok-eq0 : goal.returns-in-Ok-eq0
returns-in-Ok-eq0 c = search rules depth 3
