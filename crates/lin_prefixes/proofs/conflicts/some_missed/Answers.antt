use Rattle.std.proofs.Common.{ℕ, List, Bool, subst}
use Rattle.lin_history.specs.Problems.Lists.{In}
use Rattle.lin_prefixes.specs.Prefixes.{IsUnset}
use Rattle.lin_prefixes.proofs.ListLemmas.{list_at, unset_out}
use Rattle.lin_prefixes.proofs.conflicts.some_missed.Goals as goal

pub returns-then-is_missed : goal.returns-then-is_missed
returns-then-is_missed c = λ yes. (
  c.loop-conflict.conflict-index,
  c.loop-conflict-test.true,
  subst (λ (l : List ℕ). (b : ℕ) → In b l → (In b c.args.dropped.now → ⊥) × (In b c.args.late.now → ⊥)) (list_at c.args.conflicts.now c.loop-conflict.conflict-index _ c.loop-conflict-test.true c.conflict-item.is)
      (λ b h. let unset = c.is_missed.ensures c.if-is_missed.true b h in (
        unset_out c.in_ok-dropped_flags.dropped_flags.items c.args.count c.args.dropped.now b c.in_ok-dropped_flags.ensures.length c.in_ok-dropped_flags.ensures.each (subst (λ (x : List Bool). IsUnset x b) c.as_slice.ensures.value unset.0),
        unset_out c.in_ok-late_flags.late_flags.items c.args.count c.args.late.now b c.in_ok-late_flags.ensures.length c.in_ok-late_flags.ensures.each (subst (λ (x : List Bool). IsUnset x b) c.as_slice-in-loop-conflict.ensures.value unset.1),
      )),
)
