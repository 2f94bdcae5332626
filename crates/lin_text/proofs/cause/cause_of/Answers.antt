use Rattle.std.proofs.Common.{rules}
use Rattle.lin_text.proofs.cause.cause_of.Goals as goal

pub returns-in-Busy : goal.returns-in-Busy
returns-in-Busy c = search rules depth 3

pub returns-in-ProcessEnded : goal.returns-in-ProcessEnded
returns-in-ProcessEnded c = search rules depth 3
