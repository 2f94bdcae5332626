use Rattle.lin_search.proofs.CallEntriesLemmas.{AreEntriesBelow}
use Rattle.lin_search.proofs.call_entries.CallEntries.of.Given as goal

abbrev pub invariant-loop-place : goal.invariant-loop-place
invariant-loop-place l = AreEntriesBelow l.calls l.events l.place l.called.items l.returned.items
