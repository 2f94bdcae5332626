use Rattle.std.proofs.Common.{refl}
use Rattle.lin_history.proofs.recorder.builder.add.Goals as goal

pub returns-clause-events : goal.returns-clause-events
returns-clause-events c = refl
