use Rattle.lin_fewer.proofs.search.Search.into_judged.Goals as goal

pub returns : goal.returns
returns g c = rw (← c.self.view_is) (record { none = c.self.invariant.0.none; complete = c.self.invariant.0.complete })
