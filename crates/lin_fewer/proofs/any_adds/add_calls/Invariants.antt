use Rattle.std.proofs.Common.{◌<◌, ℕ}
use Rattle.lin_history.specs.Problems.AnyProblem.{any_problem}
use Rattle.lin_fewer.specs.AnyAdds.{AreBeginnings, HasAsMuch, IsTaken}
use Rattle.lin_fewer.proofs.any_adds.add_calls.Given as goal

abbrev pub invariant-loop-call : goal.invariant-loop-call
invariant-loop-call l = AreBeginnings (any_problem l.counted.problem.now) l.layer.items × HasAsMuch l.initial.layer.items l.layer.items × ((d : ℕ) → d < l.call → IsTaken (any_problem l.counted.problem.now) l.counted.start l.from l.layer.items d)
