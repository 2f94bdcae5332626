use Rattle.std.proofs.Common.{rules, ◌≡◌, ap, w64, to_z, of_z}
use Rattle.std.specs.Prelude.{ℤ}
use Rattle.std.specs.Ordering.{int_eq}
use Rattle.indexmap.specs.IndexMap.{index_of}
use Rattle.lin_ahead.specs.Values.Ranks.{rank_by}
use Rattle.lin_ahead.proofs.values.RankLemmas.{under_unranked, under_lower, lower_told, unranked_not_under}
use Rattle.lin_ahead.proofs.values.ranks.is_under.Goals as goal

pub returns-in_default-clause-is : goal.returns-in_default-clause-is
returns-in_default-clause-is c =
    let too : to_z w64 (of_z w64 c.args.other) ≡ c.args.other = search rules in
    λ is. under_unranked (λ (v : ℤ). rank_by c.args.ranks.now (index_of int_eq c.args.values.now v)) c.args.value c.args.other _ too c.in_default.ensures

pub returns-in-Some-rank_of-clause-is : goal.returns-in-Some-rank_of-clause-is
returns-in-Some-rank_of-clause-is c =
    let same : to_z w64 (of_z w64 c.args.value) ≡ c.args.value = search rules in
    let too : to_z w64 (of_z w64 c.args.other) ≡ c.args.other = search rules in
    λ less. under_lower (λ (v : ℤ). rank_by c.args.ranks.now (index_of int_eq c.args.values.now v)) c.args.value c.args.other _ _ same too c.in-Some-rank_of.rank c.in-Some.most c.in-Some-rank_of.ensures c.in-Some.ensures less

pub returns-in-Some-rank_of-clause-every : goal.returns-in-Some-rank_of-clause-every
returns-in-Some-rank_of-clause-every c =
    let same : to_z w64 (of_z w64 c.args.value) ≡ c.args.value = search rules in
    let too : to_z w64 (of_z w64 c.args.other) ≡ c.args.other = search rules in
    lower_told (λ (v : ℤ). rank_by c.args.ranks.now (index_of int_eq c.args.values.now v)) c.args.value c.args.other _ _ same too c.in-Some-rank_of.rank c.in-Some.most c.in-Some-rank_of.ensures c.in-Some.ensures (λ e. c.if-value-other.false (ap (of_z w64) e))

pub returns-in-None-clause-every : goal.returns-in-None-clause-every
returns-in-None-clause-every c =
    let same : to_z w64 (of_z w64 c.args.value) ≡ c.args.value = search rules in
    let too : to_z w64 (of_z w64 c.args.other) ≡ c.args.other = search rules in
    λ under. absurd (unranked_not_under (λ (v : ℤ). rank_by c.args.ranks.now (index_of int_eq c.args.values.now v)) c.args.value c.args.other _ _ same too c.in-Some.most c.in-None.ensures c.in-Some.ensures (λ e. c.if-value-other.false (ap (of_z w64) e)) under)
