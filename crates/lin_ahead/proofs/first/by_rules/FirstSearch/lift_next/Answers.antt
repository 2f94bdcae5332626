use Rattle.lin_ahead.proofs.first.by_rules.FirstSearch.lift_next.Goals as goal

pub step-requires-clause-right : goal.step-requires-clause-right
step-requires-clause-right g c = rw c.loop-at.invariant.problem (c.loop-at.invariant.right _ c.requires.right)
