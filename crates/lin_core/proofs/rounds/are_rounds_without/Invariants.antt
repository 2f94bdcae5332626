use Rattle.std.proofs.Common.{◌≡◌, ℕ, ◌<◌, false}
use Rattle.std.specs.Prelude.{slice_index, slice_index_or}
use Rattle.lin_history.specs.Problems.AnyProblem.{any_problem}
use Rattle.lin_core.specs.Rounds.{IsRound}
use Rattle.lin_core.proofs.rounds.are_rounds_without.Given as goal

abbrev pub invariant-loop-i : goal.invariant-loop-i
invariant-loop-i g l = (k : ℕ) → k < l.i → IsRound (any_problem l.problem) (slice_index l.firsts k) (slice_index l.lasts k) × (slice_index_or l.flags (slice_index l.firsts k) false ≡ false) × (slice_index_or l.flags (slice_index l.lasts k) false ≡ false)
