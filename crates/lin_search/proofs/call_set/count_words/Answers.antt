use Rattle.std.proofs.Common.{◌+◌, ◌-◌, ◌^◌, length, sym, ◌∙◌}
use Rattle.lin_search.proofs.CallSetFieldsLemmas.{bit_seen}
use Rattle.lin_search.proofs.FewerLemmas.{past_count, counted}
use Rattle.lin_search.proofs.call_set.count_words.Goals as goal

pub returns : goal.returns
returns c = λ k h.
    let set = c.set.inside in
    sym (bit_seen c.set.invariant c.set.view_is k)
    ∙ past_count set.calls set.full set.words.items set.hash set.sum c.saturating_add.result k c.set.invariant
    (counted (set.full + length set.words.items) (2 ^ 64 - 1) c.saturating_add.result (rw c.len.ensures.value at c.saturating_add.ensures)) h
