use Rattle.std.proofs.Common.{◌≡◌, ◌∙◌, sym, false, true≢false}
use Rattle.lin_search.specs.Window.{flags_of}
use Rattle.lin_search.proofs.CallSetFieldsLemmas.{test_is, same_hash, same_calls, same_leading, same_list}
use Rattle.lin_search.proofs.call_set.CallSetPartialEq.eq.Goals as goal
use Rattle.lin_search.proofs.call_set.CallSetPartialEq.eq.Goals.{then-self-other-via-then-self-other, then-self-other-via-else-self-other+then-self-other-2, then-self-other-via-else-self-other+else-self-other-2+then-self-other-3}

pub returns-then-self-other : goal.returns-then-self-other
returns-then-self-other c =
    let one = c.self.inside in
    let two = c.other.inside in
    test_is false c.args.self.now c.args.other.now (λ no. absurd (true≢false (sym no)))
    (λ e.
    let same : flags_of one.calls one.full one.words.items ≡ flags_of two.calls two.full two.words.items = c.self.view_is ∙ e ∙ sym c.other.view_is in
    elim c.then-self-other.branch [
      | then-self-other-via-then-self-other w ↦ absurd (w.if-self-other.true (same_hash c.self.invariant c.other.invariant same))
      | then-self-other-via-else-self-other+then-self-other-2 w ↦ absurd (w.if-self-other-2.true (same_calls c.self.invariant c.other.invariant same))
      | then-self-other-via-else-self-other+else-self-other-2+then-self-other-3 w ↦ absurd (w.if-self-other-3.true (same_leading c.self.invariant c.other.invariant same))
    ])

pub returns : goal.returns
returns c =
    let one = c.self.inside in
    let two = c.other.inside in
    test_is c.are_same.result c.args.self.now c.args.other.now
    (λ yes.
    let words : one.words.items ≡ two.words.items = sym c.as_slice.ensures ∙ c.are_same.ensures.0 yes ∙ c.as_slice-2.ensures in
    let same : flags_of one.calls one.full one.words.items ≡ flags_of two.calls two.full two.words.items = cc (words, c.if-self-other-2.false, c.if-self-other-3.false) in
    sym c.self.view_is ∙ same ∙ c.other.view_is)
    (λ e.
    let same : flags_of one.calls one.full one.words.items ≡ flags_of two.calls two.full two.words.items = c.self.view_is ∙ e ∙ sym c.other.view_is in
    c.are_same.ensures.1 (c.as_slice.ensures ∙ same_list c.self.invariant c.other.invariant same ∙ sym c.as_slice-2.ensures))
