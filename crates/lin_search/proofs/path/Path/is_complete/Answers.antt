use Rattle.lin_search.proofs.path.Path.is_complete.Goals as goal

pub returns : goal.returns
returns g c = c.is_complete.ensures
