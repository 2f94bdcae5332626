use Rattle.std.proofs.Common.{rules}
use Rattle.std.specs.Prelude.{ℤ}
use Rattle.std.specs.Ordering.{int_eq}
use Rattle.std.proofs.lemmas.List.Sorted.{IsNonDecreasingBy-from_sort_by_key}
use Rattle.indexmap.specs.IndexMap.{index_of}
use Rattle.lin_ahead.specs.Values.Writers.{low_by}
use Rattle.lin_ahead.proofs.values.WriterLemmas.{key_of, rows_moved, in_order}
use Rattle.lin_ahead.proofs.values.writers.writers_in_order.Goals as goal

pub returns-clause-all : goal.returns-clause-all
returns-clause-all c = rows_moved c.args.calls.now (λ (v : ℤ). low_by c.args.lows.now (index_of int_eq c.args.values.now v)) c.in_ok-rows.rows.items c.sort_by_key.new.self.items c.in_ok-sort_by_key.ensures.permutation c.in_ok-rows.ensures

pub returns-clause-order : goal.returns-clause-order
returns-clause-order c = in_order c.sort_by_key.new.self.items (IsNonDecreasingBy-from_sort_by_key key_of c.sort_by_key.new.self.items c.in_ok-sort_by_key.ensures.sorted (λ a r q k. search rules))
