use Rattle.std.specs.Prelude.{ℤ}
use Rattle.std.specs.Ordering.{int_eq}
use Rattle.indexmap.specs.IndexMap.{index_of}
use Rattle.lin_ahead.specs.Values.Writers.{low_by}
use Rattle.lin_ahead.proofs.values.WriterLemmas.{RowsTo}
use Rattle.lin_ahead.proofs.values.writers.writers_by_calls.Given as goal

abbrev pub invariant-loop-call : goal.invariant-loop-call
invariant-loop-call l = RowsTo l.calls (λ (v : ℤ). low_by l.lows (index_of int_eq l.values v)) l.call l.rows.items
