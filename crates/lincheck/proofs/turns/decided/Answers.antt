use Rattle.lin_history.specs.Problems.AnyProblem.{any_problem}
use Rattle.lincheck.proofs.turns.decided.Goals as goal

pub returns-in-Refuted-clause-known : goal.returns-in-Refuted-clause-known
returns-in-Refuted-clause-known g c =
    let none = rw c.in-Refuted.is at c.in_ok-order.ensures.decided in
    c.refute.ensures (any_problem c.args.problem.now) none
    (record { refuted = c.requires.refuted; order = c.requires.order; fault = c.requires.fault; begun = c.decide_from.ensures.begun })
