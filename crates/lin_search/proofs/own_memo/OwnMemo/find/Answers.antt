use Rattle.std.proofs.Common.{◌∙◌}
use Rattle.lin_search.specs.SameLemmas.{alike_itself}
use Rattle.lin_search.proofs.LookupLemmas.{found_refuted, held_if, if_held, some_by}
use Rattle.lin_search.proofs.own_memo.OwnMemo.find.Goals as goal

pub returns-clause-refuted : goal.returns-clause-refuted
returns-clause-refuted g c =
    rw (← c.self.view_is) (found_refuted (alike_itself c.lawful.ensures _) _ _ c.self.invariant.refuted _ (c.copied.ensures ∙ c.get.ensures.value))

pub returns-clause-exact : goal.returns-clause-exact
returns-clause-exact g c =
    rw (← c.self.view_is) (some_by _ _ _ (c.copied.ensures ∙ c.get.ensures.value) (held_if _ _ _) (if_held _ _ _))
