use Rattle.lin_search.proofs.call_set.CallSet.copy_with.Goals as goal

pub returns : goal.returns
returns c = rw c.in_ok-set.ensures at c.in_ok-insert.ensures.lifted
