use Rattle.lincheck.proofs.lines.write_undecided.Goals as goal

pub returns : goal.returns
returns c = rw c.object.ensures c.write.ensures.bytes
