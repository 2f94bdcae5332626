use Rattle.lin_search.proofs.memo.Memo.note.Goals as goal

pub returns-clause-held : goal.returns-clause-held
returns-clause-held g c =
    rw (c.into_parts-calls.ensures.lifted, c.into_parts-calls.ensures.state, c.into_parts-config.ensures.config) at c.note_parts.ensures.held

pub returns-clause-exact : goal.returns-clause-exact
returns-clause-exact g c =
    rw (c.into_parts-calls.ensures.lifted, c.into_parts-calls.ensures.state, c.into_parts-config.ensures.config, c.into_parts-config.ensures.problem, c.into_parts-config.ensures.longest) at c.note_parts.ensures.exact
