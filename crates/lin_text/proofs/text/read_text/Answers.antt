use Rattle.std.proofs.Common.{rules}
use Rattle.lin_text.proofs.TextLemmas.{means_history}
use Rattle.lin_text.proofs.text.read_text.Goals as goal

pub returns-clause-history : goal.returns-clause-history
returns-clause-history c = means_history _ _ _ c.in_ok-read_lines.ensures.history c.finish.ensures.value c.finish.ensures.history

pub read_lines-requires-clause-short : goal.read_lines-requires-clause-short
read_lines-requires-clause-short c = search rules depth 3
