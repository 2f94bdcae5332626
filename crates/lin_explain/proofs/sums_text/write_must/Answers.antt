use Rattle.std.proofs.Common.{append_assoc}
use Rattle.lin_explain.proofs.sums_text.write_must.Goals as goal

pub returns-in-Some : goal.returns-in-Some
returns-in-Some c = rw c.in-Some.is (simp append_assoc (rw (c.call_line_of-called.ensures, c.return_line_of-returned.ensures) at c.write.ensures.bytes))
