use Rattle.lin_search.proofs.depth_first.refusal.Goals as goal

pub returns-in-Some-clause-refused : goal.returns-in-Some-clause-refused
returns-in-Some-clause-refused g c = c.in-Some.ensures.told
