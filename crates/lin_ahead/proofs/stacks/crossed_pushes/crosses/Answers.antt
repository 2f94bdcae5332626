use Rattle.lin_ahead.proofs.stacks.crossed_pushes.crosses.Goals as goal

pub returns-in-Some : goal.returns-in-Some
returns-in-Some c under =
    let before = c.is_before.ensures c.if-not-is_before.false in
    (c.args.crossing.pop, c.in-Some.event, rw c.calls.ensures.calls at before, c.in-Some.ensures.returns, c.in-Some.ensures.popped, c.finds_under.ensures under)
