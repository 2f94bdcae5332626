use Rattle.lin_table.proofs.shared_memo.SharedMemoMemo.look_here.Goals as goal

pub returns-clause-refuted : goal.returns-clause-refuted
returns-clause-refuted g c = c.look_here.ensures.refuted
