use Rattle.std.proofs.Common.{sym, ◌∙◌}
use Rattle.lin_history.specs.Problems.AnyProblem.{any_problem}
use Rattle.lin_search.specs.SameLemmas.{alike_itself}
use Rattle.lin_ahead.proofs.first.NeedsLemmas.{begins_left_out}
use Rattle.lin_ahead.proofs.queues.rules.QueueRulesRulesAnyObject.begins_none.Goals as goal

pub returns-then-is_some : goal.returns-then-is_some
returns-then-is_some c = λ known.
    begins_left_out (any_problem c.args.problem.now) (alike_itself c.lawful.ensures _) _ _ c.requires.reachable c.left_out.result _ c.left_out.ensures (sym c.is_some.ensures ∙ c.if-is_some.true)

pub takes_what_is_owed-requires-clause-right : goal.takes_what_is_owed-requires-clause-right
takes_what_is_owed-requires-clause-right c = rw c.as_slice-owed.ensures.value c.requires.right.0.owed
