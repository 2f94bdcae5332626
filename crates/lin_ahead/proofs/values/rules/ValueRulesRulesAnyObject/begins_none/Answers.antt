use Rattle.std.proofs.Common.{sym, ◌∙◌}
use Rattle.lin_history.specs.Problems.AnyProblem.{any_problem}
use Rattle.lin_search.specs.SameLemmas.{alike_itself}
use Rattle.lin_ahead.proofs.first.NeedsLemmas.{begins_left_out}
use Rattle.lin_ahead.proofs.values.rules.ValueRulesRulesAnyObject.begins_none.Goals as goal

pub returns : goal.returns
returns c = λ known.
    begins_left_out (any_problem c.args.problem.now) (alike_itself c.lawful.ensures _) _ _ c.requires.reachable c.left_out.result _ c.left_out.ensures (sym c.is_some.ensures ∙ known)
