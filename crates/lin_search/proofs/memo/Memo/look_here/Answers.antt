use Rattle.lin_search.proofs.memo.Memo.look_here.Goals as goal

pub returns-clause-refuted : goal.returns-clause-refuted
returns-clause-refuted g c = c.look.ensures.refuted
