use Rattle.std.proofs.Common.{append_assoc}
use Rattle.lin_explain.proofs.sums_text.write_head.Goals as goal

pub returns : goal.returns
returns c = simp append_assoc (rw (c.which_text-which.ensures, c.size_text-size.ensures) at c.write.ensures.bytes)
