use Rattle.std.proofs.Common.{length, sym, ap, ◌∙◌}
use Rattle.lin_table.specs.Hand.{facts_of}
use Rattle.lin_table.proofs.hand.Hand.count.Goals as goal

pub returns-clause-count : goal.returns-clause-count
returns-clause-count g c =
    let i = c.self.invariant in
    i.counted ∙ sym (ap (λ views. length (facts_of c.self.inside.badge.table_id views).entries) i.only) ∙ ap (λ h. length h.entries) c.self.view_is
