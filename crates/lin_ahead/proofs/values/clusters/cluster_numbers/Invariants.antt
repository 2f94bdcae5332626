use Rattle.lin_ahead.specs.Values.Clusters.{AreNumbersTo}
use Rattle.lin_ahead.proofs.values.clusters.cluster_numbers.Given as goal

abbrev pub invariant-loop-call : goal.invariant-loop-call
invariant-loop-call l = AreNumbersTo l.calls l.owners l.call l.numbers.items
