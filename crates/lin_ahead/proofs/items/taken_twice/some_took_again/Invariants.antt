use Rattle.std.proofs.Common.{ℕ, ◌<◌}
use Rattle.std.specs.Ordering.{int_eq}
use Rattle.indexmap.specs.IndexMap.{get}
use Rattle.lin_history.specs.Problems.AnyProblem.{any_problem}
use Rattle.lin_ahead.specs.Items.Impossible.{TookAgain, callers_in}
use Rattle.lin_ahead.proofs.items.taken_twice.some_took_again.Given as goal

-- none so far
abbrev pub invariant-loop-call : goal.invariant-loop-call
invariant-loop-call l = (c : ℕ) → c < l.call → TookAgain (any_problem l.problem) (callers_in (get int_eq l.takers)) (callers_in (get int_eq l.adders)) c → ⊥
