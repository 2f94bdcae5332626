use Rattle.lin_search.proofs.refutation.Refutation.new.Goals as goal

pub invariant_of-result : goal.invariant_of-result
invariant_of-result g c = c.requires
