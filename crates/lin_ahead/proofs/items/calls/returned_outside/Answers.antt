use Rattle.std.proofs.Common.{rules, sym, ◌∙◌}
use Rattle.lin_ahead.proofs.items.calls.returned_outside.Goals as goal

pub returns-in-Some : goal.returns-in-Some
returns-in-Some g c =
    (sym c.has.ensures ∙ c.if-has.false, (c.call.result.now, c.call.ensures, (c.in-Some.field-0-1, search rules)))
