use Rattle.std.proofs.Common.{append_assoc}
use Rattle.lincheck.proofs.each.write_status.Goals as goal

pub returns : goal.returns
returns c = rw c.object.ensures (simp append_assoc (rw c.status_text-text.ensures at c.write.ensures.bytes))
