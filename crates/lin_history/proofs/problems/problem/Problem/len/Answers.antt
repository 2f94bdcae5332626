use Rattle.std.proofs.Common.{arith}
use Rattle.lin_history.proofs.problems.problem.Problem.len.Goals as goal

pub returns : goal.returns
returns g c = let count = c.len.ensures in let kept = c.self.inside.calls.ok.0 in rw (← c.self.view_is) (omega (arith, count, kept))
