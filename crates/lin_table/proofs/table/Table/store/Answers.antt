use Rattle.std.proofs.Common.{rules, length, sym, ap, ◌∙◌}
use Rattle.lin_table.specs.Hand.{facts_of}
use Rattle.lin_table.specs.Home.{home_of}
use Rattle.lin_table.proofs.HandLemmas.{free_still, free_with_entry}
use Rattle.lin_table.proofs.table.Table.store.Goals as goal
use Rattle.lin_table.proofs.table.Table.store.Goals.{then-eq, else-eq}

pub into_seat-token-requires : goal.into_seat-token-requires
into_seat-token-requires g c = let i = c.hand.invariant in (i.v, ap (λ b. b.views) c.replace.ensures.value ∙ i.only)

pub invariant_of-hand : goal.invariant_of-hand
invariant_of-hand g c =
    let i = c.hand.invariant in
    let was = sym (sym c.into_seat-token.ensures.2 ∙ ap (λ b. b.views) c.replace.ensures.value) in
    let free = rw was at i in
    elim c.if-eq.branch [
      | then-eq w ↦
          let stored = c.note_in-noted.ensures.new (search rules) in
          let room = c.has_room-has_room.ensures.0 (c.note_in-noted.ensures.room (search rules)) in
          let count = i.counted ∙ sym (ap (λ views. length (facts_of c.hand.inside.badge.table_id views).entries) i.only) ∙ ap (λ h. length h.entries) c.hand.view_is in
          rw w.hand-inside-is (free_with_entry _ _ _ _ _ (rw count room) free stored.1 c.into_badge.ensures.2)
      | else-eq w ↦
          let same = c.note_in-noted.ensures.same (search rules) in
          rw w.hand-inside-is (free_still _ _ _ _ free same c.into_badge.ensures.2)
    ]

pub note_in-noted-requires-clause-here : goal.note_in-noted-requires-clause-here
note_in-noted-requires-clause-here g c =
    let mine = sym c.into_seat-token.ensures.2 ∙ ap (λ b. b.views) c.replace.ensures.value in
    (c.args.self.now.problem, ap (λ views. (facts_of c.hand.inside.badge.table_id views).problem) mine ∙ ap (λ h. h.problem) c.hand.view_is ∙ c.requires.hand.1, c.requires.here)

pub note_in-noted-requires-clause-home : goal.note_in-noted-requires-clause-home
note_in-noted-requires-clause-home g c =
    ap (home_of c.args.refutation.config.lifted) (c.self.invariant.1 ∙ ap (λ t. t.shards) c.self.view_is) ∙ sym (c.home-shard.ensures.is ∙ ap (λ x. home_of x.lifted c.args.self.now.shards) c.config.ensures)
