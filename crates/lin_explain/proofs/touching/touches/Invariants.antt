use Rattle.std.proofs.Common.{◌≡◌, ◌++◌, drop}
use Rattle.lin_explain.specs.Touching.{touches_from}
use Rattle.lin_explain.proofs.touching.touches.Given as goal

abbrev pub invariant-loop-call : goal.invariant-loop-call
invariant-loop-call l = l.found.items ++ touches_from l.replies l.asked l.asker l.call (drop l.call l.calls) ≡ touches_from l.replies l.asked l.asker 0 l.calls
