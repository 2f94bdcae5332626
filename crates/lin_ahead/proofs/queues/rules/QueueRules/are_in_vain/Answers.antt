use Rattle.std.proofs.Common.{[], List, subst}
use Rattle.lin_object.specs.declared.op.Op.{Op}
use Rattle.lin_object.specs.declared.reply.Reply.{Reply}
use Rattle.lin_history.specs.declared.problems.problem.ProblemCall.{ProblemCall}
use Rattle.lin_history.specs.Problems.AnyProblem.{any_problem}
use Rattle.lin_ahead.specs.Queues.Slots.{LacksEnqueues}
use Rattle.lin_ahead.proofs.queues.AnyLemmas.{of_any}
use Rattle.lin_ahead.proofs.queues.SlotLemmas.{lacks_no_order}
use Rattle.lin_ahead.proofs.queues.CountedLemmas.{same_rows}
use Rattle.lin_ahead.proofs.queues.rules.QueueRules.are_in_vain.Goals as goal

pub returns : goal.returns
returns c = λ found.
    lacks_no_order (any_problem c.args.problem.now) (of_any c.args.problem.now [] c.requires.right.start)
    (subst (λ (calls : List (ProblemCall Op Reply)). LacksEnqueues calls) c.calls.ensures.calls (c.lacks_enqueues.ensures found))

pub lacks_enqueues-requires : goal.lacks_enqueues-requires
lacks_enqueues-requires c = same_rows c.args.problem.now.calls c.calls.result.now c.args.self.now.rows.items c.as_slice.result.now c.calls.ensures.calls c.as_slice.ensures.value c.requires.rows
