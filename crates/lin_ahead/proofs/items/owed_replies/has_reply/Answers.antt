use Rattle.std.proofs.Common.{sym, ◌∙◌}
use Rattle.lin_ahead.proofs.items.owed_replies.has_reply.Goals as goal

pub returns-in-Some : goal.returns-in-Some
returns-in-Some g c =
    λ same. (c.call.result.now, c.call.ensures, (c.in-Some.field-0-0, (c.in-Some.recorded, c.in-Some.is, sym c.eq.ensures ∙ same)))
