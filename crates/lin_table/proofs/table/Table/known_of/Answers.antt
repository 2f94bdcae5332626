use Rattle.std.proofs.Common.{ap, ◌∙◌}
use Rattle.lin_search.specs.AlikeLemmas.{told_alike}
use Rattle.lin_search.specs.SameLemmas.{alike_of_same}
use Rattle.lin_table.proofs.table.Table.known_of.Goals as goal

pub returns-in-Some-clause-refuted : goal.returns-in-Some-clause-refuted
returns-in-Some-clause-refuted g c =
    let named = c.self.invariant.8.problem_is c.in-Some.memo c.in-Some.is ∙ ap (λ t. t.problem) c.self.view_is in
    told_alike (alike_of_same c.lawful.ensures _ _ c.requires) _ _ _ (rw (← named) c.find.ensures.refuted)
