use Rattle.std.proofs.Common.{◌≡◌, ℕ, ◌<◌, Some}
use Rattle.std.specs.Prelude.{ℤ, slice_get}
use Rattle.lin_history.specs.Problems.AnyProblem.{any_problem}
use Rattle.lin_core.specs.SuffixCores.{holding, IsRefutedFrom}
use Rattle.lin_core.proofs.windows.is_refuted_holding_each.Given as goal

abbrev pub invariant-loop-i : goal.invariant-loop-i
invariant-loop-i g l = (k : ℕ) (v : ℤ) → k < l.i → slice_get l.window.values.items k ≡ Some v → IsRefutedFrom (any_problem l.problem) l.window.from l.window.event l.window.key l.window.values.items l.window.calls.items (holding l.window.key l.problem.start v)
