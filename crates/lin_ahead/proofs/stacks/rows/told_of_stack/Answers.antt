use Rattle.std.proofs.Common.{◌∙◌, ap}
use Rattle.std.specs.Prelude.{List}
use Rattle.lin_object.specs.declared.op.Op.{Op}
use Rattle.lin_object.specs.declared.reply.Reply.{Reply}
use Rattle.lin_history.specs.declared.problems.problem.ProblemCall.{ProblemCall}
use Rattle.lin_ahead.specs.Items.ItemCalls.{told}
use Rattle.lin_ahead.specs.Queues.ToldOfQueue.{once_row}
use Rattle.lin_ahead.proofs.stacks.rows.told_of_stack.Goals as goal

pub returns-clause-owed : goal.returns-clause-owed
returns-clause-owed c =
    c.in_ok-items.ensures.owed ∙ ap (λ (l : List (ProblemCall Op Reply)). once_row (told l) l) (c.as_slice-exchanged.ensures.value ∙ c.in_ok-on_queue.ensures)
