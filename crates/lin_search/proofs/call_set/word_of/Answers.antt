use Rattle.std.proofs.Common.{◌∙◌}
use Rattle.lin_search.specs.Window.{word_at}
use Rattle.lin_search.proofs.CallSetFieldsLemmas.{bit_seen}
use Rattle.lin_search.proofs.FewerLemmas.{bit_of_word}
use Rattle.lin_search.proofs.call_set.word_of.Goals as goal

pub returns : goal.returns
returns c = λ k e. bit_of_word (word_at c.set.inside.full c.set.inside.words.items) k c.args.index c.word.result e (rw c.as_slice.ensures at c.word.ensures) ∙ bit_seen c.set.invariant c.set.view_is k
