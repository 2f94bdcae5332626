use Rattle.std.proofs.Common.{ℕ, drop, ◌⊎◌}
use Rattle.std.specs.Prelude.{ℤ, IsTrue}
use Rattle.std.specs.Ordering.{int_eq}
use Rattle.indexmap.specs.IndexSet.{contains}
use Rattle.lin_history.specs.Problems.Lists.{In}
use Rattle.lin_history.specs.Problems.AnyProblem.{any_problem}
use Rattle.lin_prefixes.specs.Freed.{TookOut}
use Rattle.lin_prefixes.proofs.open_takers.items_taken.Given as goal

abbrev pub invariant-loop-taker : goal.invariant-loop-taker
invariant-loop-taker l = (b : ℕ) → In b l.takers → ((w : ℤ) → TookOut (any_problem l.problem) b w → IsTrue (contains int_eq l.items w)) ⊎ In b (drop l.taker-index l.takers)
