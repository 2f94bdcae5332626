use Rattle.std.proofs.Common.{◌≡◌, ◌<◌, None, ◌∷◌, [], ◌++◌, length, refl, rules}
use Rattle.lin_history.specs.declared.limits.TheConstants.{MAX_CALLS_ON_OBJECT}
use Rattle.lin_history.specs.declared.problems.problem.ProblemCall.{ProblemCall}
use Rattle.lin_history.specs.Problems.ProblemParts.{greatest_number}
use Rattle.lin_history.proofs.ProblemLemmas.EventNumberLemmas.{stays_with_call}
use Rattle.lin_history.proofs.problems.problem.Problem.add_call.Goals as goal

pub invariant_of-self-2 : goal.invariant_of-self-2
invariant_of-self-2 g c =
    let late : greatest_number c.self.inside.calls.items < c.args.number = rw (← c.self.view_is) at c.in_default.ensures.late in
    let room : length c.self.inside.calls.items < MAX_CALLS_ON_OBJECT = rw (← c.self.view_is) at c.in_default.ensures.room in
    let new : ProblemCall g.row.O-Op.Denot g.row.O-Reply.Denot = record { process = c.args.process; op = c.args.op; called = c.args.number; returned = None } in
    let pushed : c.push.new.self.items ≡ c.self.inside.calls.items ++ new ∷ [] = search rules in
    stays_with_call c.self.inside.calls.items c.push.new.self.items new pushed refl late c.self.invariant.1 room
