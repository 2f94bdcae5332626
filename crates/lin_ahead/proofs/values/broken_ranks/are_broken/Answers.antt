use Rattle.std.proofs.Common.{inl, inr}
use Rattle.std.specs.Prelude.{ℤ}
use Rattle.std.specs.Ordering.{int_eq}
use Rattle.indexmap.specs.IndexMap.{index_of}
use Rattle.lin_ahead.specs.Values.Ranks.{rank_by}
use Rattle.lin_ahead.proofs.values.broken_ranks.are_broken.Goals as goal

pub returns-then-are_two : goal.returns-then-are_two
returns-then-are_two c = λ is. ((λ (v : ℤ). rank_by c.args.ranks.now (index_of int_eq c.args.values.now v)), c.are_ranked.ensures c.if-not-are_ranked.false, inl (c.are_two.ensures c.if-are_two.true))

pub returns : goal.returns
returns c = λ is. ((λ (v : ℤ). rank_by c.args.ranks.now (index_of int_eq c.args.values.now v)), c.are_ranked.ensures c.if-not-are_ranked.false, inr (c.is_late.ensures is))
