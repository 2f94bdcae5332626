use Rattle.lin_search.proofs.depth_first.note_root.Goals as goal

pub returns-clause-closed : goal.returns-clause-closed
returns-clause-closed g c =
    λ kept refutation k.
    let noted = c.note_at.ensures.holds (c.is_kept.ensures.0 kept) _ _ k in
    (noted.0.closed, noted.1)

pub note_at-requires-clause-refuted : goal.note_at-requires-clause-refuted
note_at-requires-clause-refuted g c = c.requires.refuted _ c.in-Refuted.is
