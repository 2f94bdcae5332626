use Rattle.std.proofs.Common.{rules}
use Rattle.lin_object.proofs.state.start_state.Goals as goal

pub returns-in-Register : goal.returns-in-Register
returns-in-Register c = search rules depth 3
