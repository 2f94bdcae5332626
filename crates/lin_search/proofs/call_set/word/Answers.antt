use Rattle.std.proofs.Common.{◌∙◌, sym}
use Rattle.lin_search.proofs.WindowLemmas.{word_at_full, word_at_kept}
use Rattle.lin_search.proofs.call_set.word.Goals as goal

pub returns-then-index-full : goal.returns-then-index-full
returns-then-index-full c = sym (word_at_full c.args.full c.args.words.now c.args.index c.if-index-full.true)

pub returns-else-index-full : goal.returns-else-index-full
returns-else-index-full c = c.word_or_zero.ensures ∙ sym (word_at_kept c.args.full c.args.words.now c.args.index c.if-index-full.false)
