use Rattle.lin_fewer.proofs.search.Search.every_call.Goals as goal

pub returns : goal.returns
returns g c = rw (c.in_ok-every.ensures, ← c.self.view_is) c.self.invariant.0.every
