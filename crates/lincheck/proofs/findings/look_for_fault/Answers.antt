use Rattle.lin_history.specs.Problems.AnyProblem.{any_problem}
use Rattle.lincheck.specs.Known.{IsKnownOf}
use Rattle.lincheck.proofs.findings.look_for_fault.Goals as goal

pub returns-in-Some : goal.returns-in-Some
returns-in-Some g c =
    let none = rw c.in-Some.is at c.in_ok-fault.ensures.none in
    let known : IsKnownOf (any_problem c.args.problem.now) c.refute.new.self = c.refute.ensures (any_problem c.args.problem.now) none c.requires in
    record { refuted = known.refuted; order = known.order; fault = rw c.in-Some.is at c.in_ok-fault.ensures.fault; begun = known.begun }
