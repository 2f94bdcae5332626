use Rattle.std.proofs.Common.{arith, ℕ, List, subst, sym, ◌∙◌, true≢false}
use Rattle.lin_history.specs.Problems.Lists.{In}
use Rattle.lin_parts.specs.ListLemmas.{filled_has, filled_more, flag_there, flag_not}
use Rattle.lin_parts.proofs.call_lists.fill.Goals as goal
use Rattle.lin_parts.proofs.call_lists.fill.Goals.{then-not-index+in_ok-push, else-not-index}

pub loop-c-preserved : goal.loop-c-preserved
loop-c-preserved c =
    elim c.if-not-index.branch [
      | then-not-index+in_ok-push w ↦ rw w.calls-is (filled_more c.loop-c.c _ _ _ w.in_ok-push.ensures.items (λ h. true≢false (sym (c.in_ok-flags.ensures.each c.loop-c.c (subst (λ (x : List ℕ). In c.loop-c.c x) (sym c.as_slice.ensures.value) h) c.loop-c-test.true) ∙ flag_not c.in_ok-flags.flags.items c.loop-c.c c.index.result.now (let a = c.in_ok-flags.ensures.length in let b = c.loop-c-test.true in omega (arith, a, b)) c.index.ensures w.if-not-index.true)) c.loop-c.invariant)
      | else-not-index w ↦ rw w.calls-is (filled_has c.loop-c.c _ _ (subst (λ (x : List ℕ). In c.loop-c.c x) c.as_slice.ensures.value (c.in_ok-flags.ensures.set c.loop-c.c (flag_there c.in_ok-flags.flags.items c.loop-c.c c.index.result.now (let a = c.in_ok-flags.ensures.length in let b = c.loop-c-test.true in omega (arith, a, b)) c.index.ensures w.if-not-index.false))) c.loop-c.invariant)
    ]
