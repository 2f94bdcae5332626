use Rattle.std.proofs.Common.{rules}
use Rattle.std.specs.Prelude.{ℤ}
use Rattle.std.specs.Ordering.{int_eq}
use Rattle.indexmap.specs.IndexMap.{index_of}
use Rattle.lin_ahead.specs.Values.Ranks.{rank_by}
use Rattle.lin_ahead.proofs.values.RankLemmas.{ranked_more, ranked_all}
use Rattle.lin_ahead.proofs.values.ranks.are_ranked.Goals as goal

pub loop-call-preserved : goal.loop-call-preserved
loop-call-preserved c = ranked_more (λ (v : ℤ). rank_by c.args.ranks.now (index_of int_eq c.args.values.now v)) c.args.calls.now c.loop-call.call (c.keeps_ranks_at.ensures c.if-not-keeps_ranks_at.false) c.loop-call.invariant

pub returns : goal.returns
returns c = λ is. ranked_all (λ (v : ℤ). rank_by c.args.ranks.now (index_of int_eq c.args.values.now v)) c.args.calls.now c.loop-call.call c.loop-call-test.false c.loop-call.invariant
