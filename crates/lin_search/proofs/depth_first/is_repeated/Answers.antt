use Rattle.std.proofs.Common.{sym, ◌∙◌}
use Rattle.lin_search.proofs.depth_first.is_repeated.Goals as goal

pub returns : goal.returns
returns g c = λ told. (rw c.problem.ensures at (c.repeats.ensures.nothing told)) _ _ (rw c.config.ensures at (sym c.has.ensures ∙ c.if-has.false))
