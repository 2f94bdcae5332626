use Rattle.lin_search.specs.AlikeLemmas.{told_alike}
use Rattle.lin_search.specs.SameLemmas.{alike_of_same}
use Rattle.lin_search.proofs.own_memo.OwnMemo.look.Goals as goal

pub returns-then-same-clause-refuted : goal.returns-then-same-clause-refuted
returns-then-same-clause-refuted g c =
    told_alike (alike_of_same c.lawful.ensures _ _ (c.same.ensures.0 c.if-same.true)) _ _ _ (rw (← c.self.view_is) at c.find.ensures.refuted)
