use Rattle.std.proofs.Common.{rules, ◌≡◌, ◌∙◌, not, sym, ap, w64, to_z, of_z}
use Rattle.std.specs.Prelude.{ℤ}
use Rattle.std.specs.Ordering.{int_eq}
use Rattle.indexmap.specs.IndexMap.{index_of}
use Rattle.lin_ahead.specs.Values.Ranks.{rank_by}
use Rattle.lin_history.specs.OptionLemmas.{none_of}
use Rattle.lin_ahead.proofs.values.RankLemmas.{unranked_from}
use Rattle.lin_ahead.proofs.values.ranks.is_from_under.Goals as goal

pub returns-in_default : goal.returns-in_default
returns-in_default c =
    let same : to_z w64 (of_z w64 c.args.written) ≡ c.args.written = search rules in
    λ is. unranked_from (λ (v : ℤ). rank_by c.args.ranks.now (index_of int_eq c.args.values.now v)) c.args.op.now c.in_default.not-Cas c.args.written
    (sym (c.rank_of.ensures ∙ ap (λ (v : ℤ). rank_by c.args.ranks.now (index_of int_eq c.args.values.now v)) same) ∙ none_of c.rank_of.result (c.is_none.ensures ∙ ap not is))
