use Rattle.std.proofs.Common.{rules, ◌≡◌, ◌∙◌, inl, inr, not, true≢false, sym, ap, w64, to_z, of_z}
use Rattle.std.specs.Prelude.{ℤ}
use Rattle.std.specs.Ordering.{int_eq}
use Rattle.indexmap.specs.IndexMap.{index_of}
use Rattle.lin_ahead.specs.Values.Ranks.{rank_by}
use Rattle.lin_ahead.proofs.values.RankLemmas.{under_as}
use Rattle.lin_ahead.proofs.values.broken_ranks.writes_over.Goals as goal

pub returns-in-Some : goal.returns-in-Some
returns-in-Some c =
    let same : c.in-Some.written ≡ to_z w64 (of_z w64 c.in-Some.written) = sym (search rules) in
    let too : c.args.value ≡ to_z w64 (of_z w64 c.args.value) = sym (search rules) in
    λ is. (
      c.in-Some.written,
      inr (sym c.in-Some.ensures),
      λ under. true≢false (sym is ∙ ap not (c.is_under.ensures.every (under_as (λ (v : ℤ). rank_by c.args.ranks.now (index_of int_eq c.args.values.now v)) c.in-Some.written c.args.value _ _ same too under))),
    )
