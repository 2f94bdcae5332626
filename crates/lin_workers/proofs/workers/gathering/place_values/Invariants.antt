use Rattle.std.proofs.Common.{ℕ, vec_len}
use Rattle.std.specs.Prelude.{Contains}
use Rattle.lin_search.specs.declared.outcome.Outcome.{Outcome}
use Rattle.lin_workers.specs.Outcomes.{ArePlaced}
use Rattle.lin_workers.proofs.workers.gathering.place_values.Given as goal

abbrev pub decreases-loop-number : goal.decreases-loop-number
decreases-loop-number l = vec_len l.values

abbrev pub invariant-loop-number : goal.invariant-loop-number
invariant-loop-number l = record {
  placed : ArePlaced l.fn.outcomes l.fn.values.items l.outcomes;
  left : (v : ℕ × Outcome) → Contains l.values.items v → Contains l.fn.values.items v;
}
