use Rattle.std.proofs.Common.{length, refl}
use Rattle.std.proofs.lemmas.Option.{slice_get_read}
use Rattle.lin_ahead.proofs.values.narrowing.narrowed_row.Goals as goal

pub returns : goal.returns
returns c = record {
  old = c.in-Some.row.now;
  there = slice_get_read c.args.rows.now (length c.args.rows.now) c.args.call c.in-Some.row.now refl c.in-Some.ensures.lookup.3.0 c.in-Some.ensures.lookup.1;
  told = c.may_be_narrowed.ensures c.if-not-may_be_narrowed.false;
  still = refl;
  each = rw c.as_slice.ensures at c.in_ok-left.ensures;
  start = c.is_at_start-at_start.ensures;
}
