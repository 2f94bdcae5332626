use Rattle.std.proofs.Common.{rules}
use Rattle.lin_ahead.proofs.values.due_rules.state_after.Goals as goal

pub returns-in_ok-answer-in-None : goal.returns-in_ok-answer-in-None
returns-in_ok-answer-in-None g c = search rules depth 3

pub returns-in-Some : goal.returns-in-Some
returns-in-Some g c = search rules depth 3
