use Rattle.std.proofs.Common.{rules}
use Rattle.std.proofs.lemmas.List.Sorted.{IsNonDecreasingBy-from_sort_by_key}
use Rattle.lin_ahead.specs.Values.NeededPairs.{number_by}
use Rattle.lin_ahead.proofs.values.needed_pairs.sort_by_need.Goals as goal

pub returns-clause-sorted : goal.returns-clause-sorted
returns-clause-sorted c = IsNonDecreasingBy-from_sort_by_key number_by c.sort_by_key.new.self.items c.in_ok-sort_by_key.ensures.sorted (λ a r q k. search rules)
