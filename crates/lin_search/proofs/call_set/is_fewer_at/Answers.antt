use Rattle.lin_search.proofs.FewerLemmas.{fewer_at}
use Rattle.lin_search.proofs.call_set.is_fewer_at.Goals as goal

pub returns : goal.returns
returns c = λ yes k e. fewer_at c.args.a.now c.args.b.now c.args.of.now k c.word_of.result c.word_of-2.result c.word_of-3.result (c.is_fewer_word.ensures yes) (c.word_of.ensures k e) (c.word_of-2.ensures k e) (c.word_of-3.ensures k e)
