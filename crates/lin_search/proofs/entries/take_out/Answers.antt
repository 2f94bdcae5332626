use Rattle.lin_search.proofs.entries.take_out.Goals as goal

pub take_out-requires-in-Some : goal.take_out-requires-in-Some
take_out-requires-in-Some c = rw (c.take_out.ensures, c.called.ensures) (c.requires.links.returned c.in-Some.entry c.in-Some.ensures)
