use Rattle.std.proofs.Common.{rules, ◌≡◌, subst, w64, to_z, of_z}
use Rattle.std.specs.Prelude.{ℤ}
use Rattle.std.specs.Ordering.{int_eq}
use Rattle.indexmap.specs.IndexMap.{index_of}
use Rattle.lin_ahead.specs.Values.Ranks.{rank_by}
use Rattle.std.specs.Prelude.{slice_get, IsSomeAnd}
use Rattle.lin_ahead.specs.Values.Ranks.{ShowsOver}
use Rattle.lin_ahead.proofs.values.broken_ranks.is_late.Goals as goal

pub returns-in-Some : goal.returns-in-Some
returns-in-Some c =
    let same : to_z w64 (of_z w64 c.in-Some.value) ≡ c.in-Some.value = search rules in
    λ is. (
      c.in-Some.value,
      (c.args.one, c.args.other, c.returned_before.ensures c.if-not-returned_before.false, subst (λ (v : ℤ). IsSomeAnd (slice_get c.args.calls.now c.args.one) (ShowsOver (λ (v : ℤ). rank_by c.args.ranks.now (index_of int_eq c.args.values.now v)) v)) same (c.shows_over.ensures is), c.in-Some.ensures),
    )
