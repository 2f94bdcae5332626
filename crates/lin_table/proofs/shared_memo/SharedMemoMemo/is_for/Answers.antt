use Rattle.lin_table.proofs.shared_memo.SharedMemoMemo.is_for.Goals as goal

pub returns : goal.returns
returns g c = rw c.problem.ensures at c.same.ensures
