use Rattle.std.proofs.Common.{◌∙◌}
use Rattle.lin_search.proofs.WindowLemmas.{taken_zero}
use Rattle.lin_search.proofs.call_set.drop_empty.Goals as goal

pub loop-words-preserved : goal.loop-words-preserved
loop-words-preserved c =
    λ i.
    rw c.pop.ensures.rest
    (taken_zero c.loop-words.words.items (rw (c.as_slice.ensures, c.len-in-loop-words.ensures.value) at c.if-as_slice-len-eq0.true) i
    ∙ c.loop-words.invariant i)
