use Rattle.std.proofs.Common.{◌≡◌, None, rules, sym}
use Rattle.lin_ahead.proofs.items.owed_replies.pending_answer.Goals as goal

pub returns-in-Some : goal.returns-in-Some
returns-in-Some g c =
    let pending : c.call-made.result.now.returned ≡ None = search rules in
    (c.call-made.result.now, c.call-made.ensures, pending, (c.in-Some.field-0-0, sym (rw (c.object.ensures, c.state.ensures, c.in-Some.is) at c.in_ok-reply.ensures.answer)))
