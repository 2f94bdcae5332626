use Rattle.lincheck.proofs.lines.report.Goals as goal

pub write_yes-requires : goal.write_yes-requires
write_yes-requires c = rw c.placed.ensures (rw c.in-Yes.is at c.requires)

pub write_no-requires-clause-run : goal.write_no-requires-clause-run
write_no-requires-clause-run c = rw c.as_slice.ensures.value (rw c.in-No.is at c.requires).1
