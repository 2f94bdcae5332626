use Rattle.std.proofs.Common.{arith}
use Rattle.lin_search.proofs.longest.Longest.or_after.Goals as goal

pub returns-then-self-more-clause-not_longer : goal.returns-then-self-more-clause-not_longer
returns-then-self-more-clause-not_longer c = λ h. absurd (omega (arith, h, c.if-self-more.true))
