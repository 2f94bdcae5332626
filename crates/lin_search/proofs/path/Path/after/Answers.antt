use Rattle.lin_search.proofs.path.Path.after.Goals as goal

pub returns-clause-candidate : goal.returns-clause-candidate
returns-clause-candidate g c = rw c.requires.lifted at c.next_minimal.ensures
