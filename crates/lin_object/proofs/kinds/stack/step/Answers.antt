use Rattle.std.proofs.Common.{rules}
use Rattle.lin_object.proofs.kinds.stack.step.Goals as goal

pub returns-in_ok-higher-in-Push : goal.returns-in_ok-higher-in-Push
returns-in_ok-higher-in-Push c = search rules depth 3

pub returns-in_ok-rest-in-Pop : goal.returns-in_ok-rest-in-Pop
returns-in_ok-rest-in-Pop c = search rules depth 3
