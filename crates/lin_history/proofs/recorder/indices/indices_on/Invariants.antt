use Rattle.std.proofs.Common.{◌≡◌, ◌++◌, drop}
use Rattle.lin_history.specs.Locality.JoinedOrder.{indices_from}
use Rattle.lin_history.proofs.recorder.indices.indices_on.Given as goal

abbrev pub invariant-loop-index : goal.invariant-loop-index
invariant-loop-index l = l.indices.items ++ indices_from l.object l.index (drop l.index l.history.calls) ≡ indices_from l.object 0 l.history.calls
