use Rattle.lin_fewer.proofs.search.Search.new.Goals as goal

pub invariant_of-result : goal.invariant_of-result
invariant_of-result g c = (record { are_pending = c.in_ok-pending.ensures; every = c.in_ok-all.ensures; none = rw (← c.judged.view_is) at c.requires.judged.none; complete = rw (← c.judged.view_is) at c.requires.judged.complete }, c.in_ok-of.ensures, c.requires.suits)
