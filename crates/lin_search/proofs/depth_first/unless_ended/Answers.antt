use Rattle.std.proofs.Common.{inr, refl}
use Rattle.lin_search.proofs.depth_first.unless_ended.Goals as goal

pub returns-clause-ended : goal.returns-clause-ended
returns-clause-ended g c = inr (refl, c.ends_the_list.ensures.list c.if-not-ends_the_list.false)
