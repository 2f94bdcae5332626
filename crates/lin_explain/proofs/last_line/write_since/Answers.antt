use Rattle.std.proofs.Common.{append_assoc}
use Rattle.lin_explain.proofs.last_line.write_since.Goals as goal

pub returns : goal.returns
returns c = simp append_assoc (rw c.line_of-line.ensures at c.write.ensures.bytes)
