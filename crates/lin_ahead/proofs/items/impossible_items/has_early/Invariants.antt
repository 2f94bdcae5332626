use Rattle.std.proofs.Common.{ℕ, ◌<◌}
use Rattle.lin_history.specs.Problems.AnyProblem.{any_problem}
use Rattle.lin_ahead.specs.Items.Impossible.{CameTooEarly}
use Rattle.lin_ahead.proofs.items.impossible_items.has_early.Given as goal

-- none so far
abbrev pub invariant-loop-call : goal.invariant-loop-call
invariant-loop-call l = (c : ℕ) → c < l.call → CameTooEarly (any_problem l.problem) c → ⊥
