use Rattle.std.proofs.Common.{◌≡◌, ℕ, Vec, Global, Some, [], length, slice_get}
use Rattle.lin_history.proofs.recorder.indices.empty_lists.Given as goal

abbrev pub invariant-loop : goal.invariant-loop
invariant-loop l = (length l.lists.items ≡ l.counter) × ((object : ℕ) (v : Vec ℕ Global) → slice_get l.lists.items object ≡ Some v → v.items ≡ [])
