use Rattle.lin_search.proofs.memo.Memo.note_here.Goals as goal

pub returns-clause-held : goal.returns-clause-held
returns-clause-held g c = c.note_parts.ensures.held

pub returns-clause-exact : goal.returns-clause-exact
returns-clause-exact g c = c.note_parts.ensures.exact
