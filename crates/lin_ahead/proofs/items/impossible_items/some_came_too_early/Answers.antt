use Rattle.lin_ahead.proofs.items.ImpossibleLemmas.{too_early_none}
use Rattle.lin_ahead.proofs.items.impossible_items.some_came_too_early.Goals as goal

pub returns-clause-none : goal.returns-clause-none
returns-clause-none c = λ found l. let k = c.has_early.ensures.0 found in too_early_none c.args.problem.now k.0 k.1 l
