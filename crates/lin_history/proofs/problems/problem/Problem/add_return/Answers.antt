use Rattle.std.proofs.Common.{◌<◌, length, refl}
use Rattle.lin_history.specs.Problems.ProblemParts.{greatest_number}
use Rattle.lin_history.proofs.ProblemLemmas.EventNumberLemmas.{stays_with_return}
use Rattle.lin_history.proofs.problems.problem.Problem.add_return.Goals as goal

pub invariant_of-self : goal.invariant_of-self
invariant_of-self g c =
    let late : greatest_number c.self.inside.calls.items < c.args.number = rw (← c.self.view_is) at c.in_default.ensures.late in
    let within : c.args.call < length c.self.inside.calls.items = rw (← c.self.view_is) at c.in_default.ensures.within in
    stays_with_return c.self.inside.calls.items c.complete.new.calls.items c.args.call c.args.number c.args.reply c.complete.ensures within late c.self.invariant.1 c.self.invariant.2

pub returns-clause-ok : goal.returns-clause-ok
returns-clause-ok g c = rw (← c.self.view_is, c.complete.ensures) refl
