use Rattle.std.proofs.Common.{rules, ◌≡◌, ◌∙◌, Option, IsSome, sym, ap, subst, ℕ, w64, to_z, of_z}
use Rattle.std.specs.Prelude.{ℤ}
use Rattle.std.specs.Ordering.{int_eq}
use Rattle.indexmap.specs.IndexMap.{index_of}
use Rattle.lin_ahead.specs.Values.Ranks.{rank_by}
use Rattle.lin_ahead.specs.Values.Ranks.{TookAway}
use Rattle.lin_ahead.proofs.values.broken_ranks.are_two.Goals as goal

pub returns-then-value-same : goal.returns-then-value-same
returns-then-value-same c =
    let value = c.in-Some-Some.value in
    let kept : to_z w64 (of_z w64 value) ≡ value = search rules in
    let other : to_z w64 (of_z w64 c.in-Some-Some.same) ≡ c.in-Some-Some.same = search rules in
    let same : value ≡ c.in-Some-Some.same = sym kept ∙ ap (to_z w64) c.if-value-same.true ∙ other in
    λ is. (
      value,
      subst (λ (o : Option ℕ). IsSome o) (c.rank_of.ensures ∙ ap (λ (v : ℤ). rank_by c.args.ranks.now (index_of int_eq c.args.values.now v)) kept) (sym c.is_some.ensures ∙ is),
      (c.args.one, c.args.other, c.if-one-other.false, c.in-Some-Some.ensures, subst (λ (v : ℤ). TookAway c.args.calls.now v c.args.other) (sym same) c.in-Some-Some.ensures'),
    )
