use Rattle.std.proofs.Common.{[], List, subst}
use Rattle.lin_object.specs.declared.op.Op.{Op}
use Rattle.lin_object.specs.declared.reply.Reply.{Reply}
use Rattle.lin_history.specs.declared.problems.problem.ProblemCall.{ProblemCall}
use Rattle.lin_history.specs.Problems.AnyProblem.{any_problem}
use Rattle.lin_search.specs.SameLemmas.{alike_itself}
use Rattle.lin_ahead.specs.Items.Takers.{queue_of}
use Rattle.lin_ahead.specs.Queues.Slots.{ComesTooEarly}
use Rattle.lin_ahead.proofs.queues.AnyLemmas.{of_any}
use Rattle.lin_ahead.proofs.queues.SlotLemmas.{early_begins_none}
use Rattle.lin_ahead.proofs.queues.CountedLemmas.{same_rows}
use Rattle.lin_ahead.proofs.queues.rules.QueueRules.comes_too_early.Goals as goal

pub returns : goal.returns
returns c = λ early.
    early_begins_none (any_problem c.args.problem.now) (of_any c.args.problem.now [] c.requires.right.start) (alike_itself c.lawful.ensures _)
    _ _ c.requires.reachable c.args.call
    (subst (λ (calls : List (ProblemCall Op Reply)). ComesTooEarly (queue_of calls) c.args.config.now.lifted c.args.call) c.calls.ensures.calls (c.comes_too_early.ensures early))

pub comes_too_early-requires : goal.comes_too_early-requires
comes_too_early-requires c = same_rows c.args.problem.now.calls c.calls.result.now c.args.self.now.rows.items c.as_slice.result.now c.calls.ensures.calls c.as_slice.ensures.value c.requires.rows
