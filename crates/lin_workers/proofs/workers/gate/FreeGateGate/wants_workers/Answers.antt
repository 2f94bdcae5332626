use Rattle.std.proofs.Common.{rules}
use Rattle.lin_workers.proofs.workers.gate.FreeGateGate.wants_workers.Goals as goal

pub returns : goal.returns
returns c = search rules depth 3
