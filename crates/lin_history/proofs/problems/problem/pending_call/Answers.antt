use Rattle.std.proofs.Common.{refl}
use Rattle.lin_history.proofs.problems.problem.pending_call.Goals as goal

pub returns : goal.returns
returns g c = refl
