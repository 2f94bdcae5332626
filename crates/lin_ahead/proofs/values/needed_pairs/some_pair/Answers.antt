use Rattle.std.proofs.Common.{◌∙◌, ap, subst}
use Rattle.std.specs.List.Sorted.{IsPermutation}
use Rattle.lin_ahead.specs.Values.NeededPairs.{some_pair, with_needs}
use Rattle.lin_ahead.proofs.values.PairLemmas.{pair_sorted}
use Rattle.lin_ahead.proofs.values.needed_pairs.some_pair.Goals as goal

pub returns : goal.returns
returns c =
    let moved : IsPermutation (with_needs c.args.numbers.now) c.sort_by_need.new.numbers.items = subst (λ l. IsPermutation l c.sort_by_need.new.numbers.items) c.in_ok-left.ensures c.sort_by_need.ensures.permutation in
    c.some_pair_in_order.ensures ∙ ap some_pair c.as_slice.ensures.value ∙ pair_sorted c.args.numbers.now c.sort_by_need.new.numbers.items moved
