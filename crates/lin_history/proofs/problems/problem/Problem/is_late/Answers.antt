use Rattle.std.proofs.Common.{refl}
use Rattle.std.proofs.lemmas.Bool.{leb-false}
use Rattle.lin_history.proofs.problems.problem.Problem.is_late.Goals as goal

pub returns-clause-late : goal.returns-clause-late
returns-clause-late g c = rw (← c.self.view_is, ← c.self.invariant.0) refl

pub returns-clause-rises : goal.returns-clause-rises
returns-clause-rises g c not_late = rw (← c.self.view_is, ← c.self.invariant.0) (leb-false c.args.number c.self.inside.last not_late)
