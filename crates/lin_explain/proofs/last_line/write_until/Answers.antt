use Rattle.std.proofs.Common.{append_assoc}
use Rattle.lin_explain.proofs.last_line.write_until.Goals as goal

pub returns : goal.returns
returns c = simp append_assoc (rw (c.line_of-line.ensures, c.last_event.ensures, c.not_done_by_others-words.ensures) at c.write.ensures.bytes)
