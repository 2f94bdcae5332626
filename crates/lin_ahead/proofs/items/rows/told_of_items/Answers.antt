use Rattle.std.proofs.Common.{◌∙◌}
use Rattle.lin_ahead.specs.Queues.ToldOfQueue.{once_row}
use Rattle.lin_ahead.proofs.stacks.PopperLemmas.{told_row}
use Rattle.lin_ahead.proofs.items.rows.told_of_items.Goals as goal

pub returns-clause-owed : goal.returns-clause-owed
returns-clause-owed c = c.in_ok-once_row.ensures ∙ told_row once_row _ _ _ c.in_ok-told.ensures
