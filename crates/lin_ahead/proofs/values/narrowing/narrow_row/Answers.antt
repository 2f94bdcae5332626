use Rattle.lin_ahead.proofs.values.NarrowedLemmas.{rows_narrowed}
use Rattle.lin_ahead.proofs.values.narrowing.narrow_row.Goals as goal

pub returns-in-Some-get_mut : goal.returns-in-Some-get_mut
returns-in-Some-get_mut c = rows_narrowed c.args.calls.now c.args.rows.now.items c.args.call c.in-Some.row (rw c.as_slice.ensures.value at (rw c.in-Some.is at c.in_ok-row.ensures))
