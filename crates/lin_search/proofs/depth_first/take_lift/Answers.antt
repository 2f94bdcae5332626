use Rattle.std.proofs.Common.{refl}
use Rattle.lin_search.proofs.depth_first.take_lift.Goals as goal

pub returns-in-None-clause-none : goal.returns-in-None-clause-none
returns-in-None-clause-none g c = absurd (c refl)

pub returns-in-Some-clause-none : goal.returns-in-Some-clause-none
returns-in-Some-clause-none g c = absurd (c refl)
