use Rattle.std.proofs.Common.{inl, inr, arith}
use Rattle.lin_ahead.proofs.stacks.crossed_pushes.popped_after.Goals as goal

pub returns-then-returned-from-clause-popped : goal.returns-then-returned-from-clause-popped
returns-then-returned-from-clause-popped c = elim c.popped_from-from.ensures [
  | inl none ↦ absurd (let less = c.if-returned-from.true in omega (arith, none, less))
  | inr there ↦ (c.popped_from-from.result, there, c.if-returned-from.true)
]
