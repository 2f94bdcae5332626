use Rattle.std.proofs.Common.{◌+◌, List, sym, subst}
use Rattle.std.specs.Prelude.{ℤ}
use Rattle.std.specs.Ordering.{int_eq}
use Rattle.indexmap.specs.IndexMap.{index_of}
use Rattle.lin_ahead.specs.declared.values.writers.Writer.{Writer}
use Rattle.lin_ahead.specs.Values.Writers.{low_by}
use Rattle.lin_ahead.proofs.values.WriterLemmas.{RowsTo, row_more_at, row_same_at, rows_all}
use Rattle.lin_ahead.proofs.values.writers.writers_by_calls.Goals as goal
use Rattle.lin_ahead.proofs.values.writers.writers_by_calls.Goals.{in-Some+in_ok-push, in_default}

pub loop-call-preserved : goal.loop-call-preserved
loop-call-preserved c =
    let low = λ (v : ℤ). low_by c.args.lows.now (index_of int_eq c.args.values.now v) in
    elim c.match-writer_of.branch [
      | in-Some+in_ok-push w ↦ rw w.rows-is (subst (λ (l : List Writer). RowsTo c.args.calls.now low (c.loop-call.call + 1) l) (sym w.in_ok-push.ensures.items)
          (row_more_at c.args.calls.now low c.loop-call.call c.loop-call.rows.items _ w.in-Some.row c.loop-call-test.true w.in-Some.ensures c.loop-call.invariant))
      | in_default w ↦ rw w.rows-is (row_same_at c.args.calls.now low c.loop-call.call c.loop-call.rows.items _ c.loop-call-test.true w.in_default.ensures c.loop-call.invariant)
    ]

pub returns : goal.returns
returns c = rows_all c.args.calls.now (λ (v : ℤ). low_by c.args.lows.now (index_of int_eq c.args.values.now v)) c.loop-call.call c.loop-call.rows.items c.loop-call-test.false c.loop-call.invariant
