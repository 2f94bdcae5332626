use Rattle.std.proofs.Common.{rules}
use Rattle.lincheck.proofs.status.status_code.Goals as goal

pub returns-in-Ok-Undecided : goal.returns-in-Ok-Undecided
returns-in-Ok-Undecided c = search rules depth 3
