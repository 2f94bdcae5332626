use Rattle.std.specs.Prelude.{refl}
use Rattle.lin_table.specs.SharedLemmas.{grown_when_told, told_of_ours}
use Rattle.lin_table.proofs.shared_memo.SharedMemoMemo.note_here.Goals as goal

pub returns-clause-exact : goal.returns-clause-exact
returns-clause-exact g c =
    let e = c.note_here.ensures in
    told_of_ours _ _ _ _ _ _ c.requires.here e.new e.same e.own

pub returns-clause-changes : goal.returns-clause-changes
returns-clause-changes g c = (refl, refl, grown_when_told _ _ _ _ _ _ (returns-clause-exact g c))
