use Rattle.std.proofs.Common.{◌≡◌, ◌<◌, ℕ, Some}
use Rattle.std.specs.Prelude.{slice_get}
use Rattle.lin_history.specs.Problems.AnyProblem.{any_problem}
use Rattle.lin_search.specs.NextCall.{HasEveryCompleted}
use Rattle.lin_fewer.specs.declared.any_adds.Beginning.{Beginning}
use Rattle.lin_fewer.specs.AnyAdds.{AreBeginnings, IsTaken}
use Rattle.lin_fewer.proofs.any_adds.next_layer.Given as goal

abbrev pub invariant-loop-i : goal.invariant-loop-i
invariant-loop-i l = AreBeginnings (any_problem l.counted.problem.now) l.later.items × ((k : ℕ) (b : Beginning) → k < l.i → slice_get l.layer k ≡ Some b → (HasEveryCompleted (any_problem l.counted.problem.now) b.lifted → ⊥) × ((c : ℕ) → IsTaken (any_problem l.counted.problem.now) l.counted.start b l.later.items c))
