-- Two calls that cross (this project's own).
use Rattle.std.specs.Prelude.{◌≡◌, ℕ, ◌<◌, Some, slice_get}
use Rattle.lin_history.specs.Problems.Problem.{Problem}
use Rattle.lin_history.specs.Problems.Precedence.{Before}
use Rattle.lin_history.specs.Problems.Needs.{NeedNumbers}

-- Some call returned before another was called, and yet needs it by these numbers.
abbrev pub SomeCross : {State Op Reply : Type 0} → Problem State Op Reply → NeedNumbers → Type 0
SomeCross p rows = (a : ℕ) × (b : ℕ) × (m : ℕ) × (n : ℕ) × Before p a b × (slice_get rows.by b ≡ Some m) × (slice_get rows.from a ≡ Some n) × (m < n)
