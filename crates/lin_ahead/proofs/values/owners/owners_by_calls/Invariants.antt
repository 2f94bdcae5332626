use Rattle.lin_ahead.proofs.values.PossibleOwnerLemmas.{AreListedTo}
use Rattle.lin_ahead.proofs.values.owners.owners_by_calls.Given as goal

abbrev pub invariant-loop-writer : goal.invariant-loop-writer
invariant-loop-writer l = AreListedTo l.calls l.value l.writer l.owners.items
