use Rattle.std.proofs.Common.{sym, ap, ◌∙◌}
use Rattle.lin_table.specs.Hand.{facts_of}
use Rattle.lin_table.proofs.table.Table.look_home.Goals as goal

pub into_seat-token-requires : goal.into_seat-token-requires
into_seat-token-requires g c = let i = c.hand.invariant in (i.v, ap (λ b. b.views) c.replace.ensures.value ∙ i.only)

pub look_in-found-requires-clause-here : goal.look_in-found-requires-clause-here
look_in-found-requires-clause-here g c =
    let mine = sym c.into_seat-token.ensures.2 ∙ ap (λ b. b.views) c.replace.ensures.value in
    (c.args.self.now.problem, ap (λ views. (facts_of c.hand.inside.badge.table_id views).problem) mine ∙ ap (λ h. h.problem) c.hand.view_is ∙ c.requires.hand.1, c.requires.here)
