use Rattle.std.specs.Prelude.{drop}
use Rattle.lin_ahead.specs.Values.Balance.{AreMakers}
use Rattle.lin_ahead.proofs.values.balance.are_makers.Given as goal

abbrev pub invariant-loop-call : goal.invariant-loop-call
invariant-loop-call l = AreMakers l.makers (drop l.call-index l.calls) → AreMakers l.makers l.calls
