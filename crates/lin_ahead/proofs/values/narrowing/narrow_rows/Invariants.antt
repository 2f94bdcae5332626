use Rattle.lin_ahead.specs.Values.Narrowing.{AreNarrowed}
use Rattle.lin_ahead.proofs.values.narrowing.narrow_rows.Given as goal

abbrev pub invariant-loop-call : goal.invariant-loop-call
invariant-loop-call l = AreNarrowed l.calls l.fn.rows.items l.rows.items
