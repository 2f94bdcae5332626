use Rattle.lin_history.specs.Problems.AnyProblem.{any_problem}
use Rattle.lin_search.specs.SameLemmas.{alike_itself}
use Rattle.lin_ahead.proofs.counters.OverLemmas.{over_begins_none}
use Rattle.lin_ahead.proofs.counters.rules.CounterRulesRulesAnyObject.begins_none.Goals as goal

pub returns : goal.returns
returns c = λ over.
    over_begins_none (any_problem c.args.problem.now) (alike_itself c.lawful.ensures _)
    c.args.self.now.ahead.now c.requires.right.sums _ _ c.requires.reachable c.args.call
    (c.is_over.ensures over)
