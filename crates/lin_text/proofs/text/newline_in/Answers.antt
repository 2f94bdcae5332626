use Rattle.lin_text.proofs.LineLemmas.{newline_at}
use Rattle.lin_text.proofs.text.newline_in.Goals as goal

pub returns-clause-value : goal.returns-clause-value
returns-clause-value c = newline_at c.args.text.now c.memchr.result c.memchr.ensures
