use Rattle.std.proofs.Common.{rules, Some, None, ◌∙◌}
use Rattle.std.specs.Prelude.{ℤ}
use Rattle.std.specs.Ordering.{int_eq}
use Rattle.indexmap.specs.IndexMap.{index_of}
use Rattle.lin_ahead.proofs.values.RankLemmas.{by_index}
use Rattle.lin_ahead.proofs.values.ranks.rank_of.Goals as goal

pub returns-in-Some : goal.returns-in-Some
returns-in-Some c = c.rank_at.ensures ∙ by_index c.args.ranks.now (λ (v : ℤ). index_of int_eq c.args.values.now v) _ c.args.value (Some c.in-Some.index) (search rules) c.in-Some.ensures.index

pub returns-in-None : goal.returns-in-None
returns-in-None c = by_index c.args.ranks.now (λ (v : ℤ). index_of int_eq c.args.values.now v) _ c.args.value None (search rules) c.in-None.ensures.index
