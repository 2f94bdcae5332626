use Rattle.std.proofs.Common.{append_assoc}
use Rattle.lin_explain.proofs.core_text.write_whatever.Goals as goal

pub returns-in-Some : goal.returns-in-Some
returns-in-Some c = rw c.in-Some.is (simp append_assoc (rw (c.line_of-line.ensures, c.holder-holder.ensures) at c.write.ensures.bytes))
