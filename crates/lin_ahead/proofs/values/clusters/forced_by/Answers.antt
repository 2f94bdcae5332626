use Rattle.std.proofs.Common.{Some}
use Rattle.lin_ahead.proofs.values.clusters.forced_by.Goals as goal

pub returns-in-None-clause-every : goal.returns-in-None-clause-every
returns-in-None-clause-every c = λ w sole. absurd (let e = c.sole_owner.ensures.every (Some w) sole in let f = c.in-None.is in cc)
