use Rattle.std.proofs.Common.{◌≡◌, ℕ, Vec, Global, length}
use Rattle.lin_history.proofs.RecorderLemmas.IndexLemmas.{AreIndicesBelow}
use Rattle.lin_history.proofs.recorder.indices.indices_of_all.Given as goal

abbrev pub invariant-loop-index : goal.invariant-loop-index
invariant-loop-index l = (length l.lists.items ≡ length l.history.objects) × AreIndicesBelow (λ (v : Vec ℕ Global). v.items) l.history.calls l.index l.lists.items
