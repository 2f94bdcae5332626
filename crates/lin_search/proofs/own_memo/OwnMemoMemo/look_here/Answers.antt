use Rattle.lin_search.specs.AlikeLemmas.{told_alike}
use Rattle.lin_search.specs.SameLemmas.{alike_of_same}
use Rattle.lin_search.proofs.own_memo.OwnMemoMemo.look_here.Goals as goal

pub returns-clause-refuted : goal.returns-clause-refuted
returns-clause-refuted g c = told_alike (alike_of_same c.lawful.ensures _ _ c.requires) _ _ _ c.find.ensures.refuted
