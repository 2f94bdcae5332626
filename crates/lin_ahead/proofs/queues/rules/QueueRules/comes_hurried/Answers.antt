use Rattle.std.proofs.Common.{[], ℤ, List, subst, ◌∙◌, rules}
use Rattle.lin_object.specs.declared.op.Op.{Op}
use Rattle.lin_object.specs.declared.reply.Reply.{Reply}
use Rattle.lin_history.specs.declared.problems.problem.ProblemCall.{ProblemCall}
use Rattle.lin_history.specs.Problems.AnyProblem.{any_problem}
use Rattle.lin_ahead.specs.Items.Takers.{queue_of}
use Rattle.lin_ahead.specs.Queues.Hurried.{ComesHurried}
use Rattle.lin_ahead.proofs.queues.AnyLemmas.{of_any}
use Rattle.lin_ahead.proofs.queues.HurriedLemmas.{hurried_begins_none}
use Rattle.lin_ahead.proofs.queues.CountedLemmas.{same_rows}
use Rattle.lin_ahead.proofs.queues.rules.QueueRules.comes_hurried.Goals as goal

pub returns : goal.returns
returns c = λ known.
    hurried_begins_none (any_problem c.args.problem.now) [] (of_any c.args.problem.now [] c.requires.right.start)
    c.args.config.now.lifted c.args.config.now.state _ (search rules) c.args.call
    (subst (λ (items : List ℤ). ComesHurried (any_problem c.args.problem.now) c.args.config.now.lifted items c.args.call) (c.as_slice.ensures.value ∙ c.in_ok-list.ensures)
    (subst (λ (calls : List (ProblemCall Op Reply)). ComesHurried (queue_of calls) c.args.config.now.lifted c.as_slice.result.now c.args.call) c.calls.ensures.calls (c.comes_hurried.ensures known)))

pub comes_hurried-requires : goal.comes_hurried-requires
comes_hurried-requires c = same_rows c.args.problem.now.calls c.calls.result.now c.args.self.now.rows.items c.as_slice-2.result.now c.calls.ensures.calls c.as_slice-2.ensures.value c.requires.rows
