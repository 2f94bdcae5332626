use Rattle.std.proofs.Common.{rules, ◌≡◌, Some, length, refl, subst, w64, to_z, of_z}
use Rattle.std.specs.Prelude.{ℤ}
use Rattle.std.specs.List.{slice_get}
use Rattle.std.specs.Ordering.{int_eq}
use Rattle.std.proofs.lemmas.Option.{slice_get_read}
use Rattle.indexmap.specs.IndexMap.{index_of}
use Rattle.lin_history.specs.OptionLemmas.{and_some}
use Rattle.lin_ahead.specs.Values.Ranks.{rank_by, ShowsOver}
use Rattle.lin_ahead.proofs.values.broken_ranks.shows_over.Goals as goal

pub returns-then-finds_over : goal.returns-then-finds_over
returns-then-finds_over c =
    let calls = c.args.calls.now in
    let one = c.in-Some.one.now in
    let there : slice_get calls c.args.call ≡ Some one = slice_get_read calls (length calls) c.args.call one refl c.in-Some.ensures.lookup.3.0 c.in-Some.ensures.lookup.1 in
    let same : to_z w64 (of_z w64 c.args.value) ≡ c.args.value = search rules in
    λ is. and_some (slice_get calls c.args.call) (ShowsOver (λ (v : ℤ). rank_by c.args.ranks.now (index_of int_eq c.args.values.now v)) c.args.value) one there (subst (λ (v : ℤ). ShowsOver (λ (v : ℤ). rank_by c.args.ranks.now (index_of int_eq c.args.values.now v)) v one) same (c.finds_over.ensures c.if-finds_over.true))

pub returns-else-finds_over : goal.returns-else-finds_over
returns-else-finds_over c =
    let calls = c.args.calls.now in
    let one = c.in-Some.one.now in
    let there : slice_get calls c.args.call ≡ Some one = slice_get_read calls (length calls) c.args.call one refl c.in-Some.ensures.lookup.3.0 c.in-Some.ensures.lookup.1 in
    let same : to_z w64 (of_z w64 c.args.value) ≡ c.args.value = search rules in
    λ is. and_some (slice_get calls c.args.call) (ShowsOver (λ (v : ℤ). rank_by c.args.ranks.now (index_of int_eq c.args.values.now v)) c.args.value) one there (subst (λ (v : ℤ). ShowsOver (λ (v : ℤ). rank_by c.args.ranks.now (index_of int_eq c.args.values.now v)) v one) same (c.writes_over.ensures is))
