use Rattle.lin_history.specs.Problems.AnyProblem.{any_problem}
use Rattle.lin_fewer.specs.AnyAdds.{AreBeginnings}
use Rattle.lin_fewer.proofs.AnyAddsLemmas.{Covers}
use Rattle.lin_fewer.proofs.any_adds.is_refuted_with_any_adds.Given as goal

abbrev pub invariant-loop : goal.invariant-loop
invariant-loop g l = Covers l.counted.problem.now l.counted.start l.layer.items × AreBeginnings (any_problem l.counted.problem.now) l.layer.items
