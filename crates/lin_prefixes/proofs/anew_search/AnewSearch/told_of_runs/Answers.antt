use Rattle.lin_prefixes.proofs.anew_search.AnewSearch.told_of_runs.Goals as goal

pub returns-in-Refuted : goal.returns-in-Refuted
returns-in-Refuted g c = c.in_ok-part.ensures (rw c.in-Refuted.is at c.in_ok-told_of_part.ensures)
