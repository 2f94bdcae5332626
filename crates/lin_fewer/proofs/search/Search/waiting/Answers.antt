use Rattle.lin_fewer.proofs.search.Search.waiting.Goals as goal

pub returns : goal.returns
returns g c = rw (← c.self.view_is) c.self.invariant.1
