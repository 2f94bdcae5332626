use Rattle.std.proofs.Common.{rules}
use Rattle.lin_history.proofs.verifier.state_after.Goals as goal

pub returns-then-is_recorded : goal.returns-then-is_recorded
returns-then-is_recorded c = search rules depth 3
