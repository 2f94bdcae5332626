use Rattle.lin_ahead.specs.Values.Narrowing.{AreNarrowed}
use Rattle.lin_ahead.proofs.values.narrowing.narrow.Given as goal

abbrev pub invariant-loop : goal.invariant-loop
invariant-loop l = AreNarrowed l.calls l.fn.rows.items l.rows.items
