use Rattle.std.proofs.Common.{refl}
use Rattle.lin_search.proofs.refutation.Refutation.into_parts.Goals as goal

pub returns-clause-longest : goal.returns-clause-longest
returns-clause-longest g c = rw (← c.self.view_is) refl

pub returns-clause-refuted : goal.returns-clause-refuted
returns-clause-refuted g c = c.self.invariant
