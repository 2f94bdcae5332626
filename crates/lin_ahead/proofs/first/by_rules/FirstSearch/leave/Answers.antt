use Rattle.std.proofs.Common.{inr, refl}
use Rattle.lin_ahead.proofs.first.by_rules.FirstSearch.leave.Goals as goal

pub returns-then-changes_nothing-clause-candidate :
    goal.returns-then-changes_nothing-clause-candidate
returns-then-changes_nothing-clause-candidate g c =
    inr (refl, rw (c.problem.ensures, c.unlift.ensures.problem, c.call-call.ensures) at (c.changes_nothing.ensures c.if-changes_nothing.true))
