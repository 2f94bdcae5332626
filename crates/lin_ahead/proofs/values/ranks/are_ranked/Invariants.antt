use Rattle.std.proofs.Common.{ℕ, ℤ, ◌<◌, ◌≡◌, Some, slice_get}
use Rattle.std.specs.Ordering.{int_eq}
use Rattle.indexmap.specs.IndexMap.{index_of}
use Rattle.lin_ahead.specs.Values.Ranks.{rank_by}
use Rattle.lin_ahead.proofs.values.RankLemmas.{AreRankedTo}
use Rattle.lin_ahead.proofs.values.ranks.are_ranked.Given as goal

abbrev pub invariant-loop-call : goal.invariant-loop-call
invariant-loop-call l = AreRankedTo (λ (v : ℤ). rank_by l.ranks (index_of int_eq l.values v)) l.calls l.call
