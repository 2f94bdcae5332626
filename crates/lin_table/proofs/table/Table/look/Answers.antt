use Rattle.lin_table.proofs.table.Table.look.Goals as goal

pub look_here-requires-clause-here : goal.look_here-requires-clause-here
look_here-requires-clause-here g c = c.is_for.ensures.0 c.if-is_for.true

pub returns-then-is_for-clause-ours : goal.returns-then-is_for-clause-ours
returns-then-is_for-clause-ours g c = λ _. c.is_for.ensures.0 c.if-is_for.true
