use Rattle.std.specs.Prelude.{drop}
use Rattle.lin_ahead.specs.Values.Due.{AreInWith}
use Rattle.lin_ahead.proofs.values.due_rules.are_in_with.Given as goal

abbrev pub invariant-loop-call : goal.invariant-loop-call
invariant-loop-call l = AreInWith l.config.lifted l.more (drop l.call-index l.calls) → AreInWith l.config.lifted l.more l.calls
