use Rattle.std.proofs.Common.{rules}
use Rattle.lin_history.proofs.recorder.history.History.object.Goals as goal

pub returns : goal.returns
returns c = search rules
