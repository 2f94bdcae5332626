use Rattle.lin_ahead.proofs.values.due_rules.another_is_due.Goals as goal

pub returns-then-other-call : goal.returns-then-other-call
returns-then-other-call c = λ known. (c.in-Some.other, c.is_due.ensures known, c.if-other-call.true)
