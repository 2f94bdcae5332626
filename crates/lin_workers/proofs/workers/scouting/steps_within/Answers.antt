use Rattle.std.proofs.Common.{rules}
use Rattle.lin_workers.proofs.workers.scouting.steps_within.Goals as goal

pub returns-in-Some : goal.returns-in-Some
returns-in-Some c = search rules depth 3
