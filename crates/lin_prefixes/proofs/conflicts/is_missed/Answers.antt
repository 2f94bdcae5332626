use Rattle.std.proofs.Common.{ℕ, List, get_or, refl, subst, arith}
use Rattle.lin_history.specs.Problems.Lists.{In}
use Rattle.lin_prefixes.specs.Prefixes.{IsUnset}
use Rattle.lin_prefixes.proofs.ListLemmas.{each_next, each_end}
use Rattle.lin_prefixes.proofs.conflicts.is_missed.Goals as goal

pub loop-c-preserved : goal.loop-c-preserved
loop-c-preserved c = each_next (λ (b : ℕ). IsUnset c.args.dropped.now b × IsUnset c.args.late.now b) c.calls-calls.result.now c.loop-c.c-index (get_or c.calls-calls.result.now c.loop-c.c-index 0) c.loop-c-test.true refl
    (c.is_unset.ensures c.if-not-is_unset.false, c.is_unset-else-not-is_unset.ensures c.if-not-is_unset-2.false)
    c.loop-c.invariant

pub returns : goal.returns
returns c = λ yes. subst (λ (l : List ℕ). (b : ℕ) → In b l → IsUnset c.args.dropped.now b × IsUnset c.args.late.now b) c.calls-calls.ensures (each_end (λ (b : ℕ). IsUnset c.args.dropped.now b × IsUnset c.args.late.now b) c.calls-calls.result.now c.loop-c.c-index (let a = c.loop-c-test.false in omega (arith, a)) c.loop-c.invariant)
