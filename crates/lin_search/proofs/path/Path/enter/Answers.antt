use Rattle.lin_search.proofs.path.Path.enter.Goals as goal

pub returns-clause-candidate : goal.returns-clause-candidate
returns-clause-candidate g c = rw c.requires at c.first_minimal.ensures
