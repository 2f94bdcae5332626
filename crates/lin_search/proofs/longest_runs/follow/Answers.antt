use Rattle.lin_search.proofs.PathLemmas.{next_minimal}
use Rattle.lin_search.proofs.longest_runs.follow.Goals as goal

pub lift-requires-clause-minimal : goal.lift-requires-clause-minimal
lift-requires-clause-minimal g c = next_minimal _ _ _ _ _ c.requires.next.1
