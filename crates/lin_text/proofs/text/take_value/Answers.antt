use Rattle.std.proofs.Common.{ap, ◌∙◌}
use Rattle.lin_text.specs.Causes.{cause_of}
use Rattle.lin_text.specs.Line.{seen}
use Rattle.lin_text.proofs.CauseLemmas.{refused_value, refused_event, told_by_event}
use Rattle.lin_text.proofs.text.take_value.Goals as goal

pub returns-in-Err-clause-err : goal.returns-in-Err-clause-err
returns-in-Err-clause-err g c = λ other line read. refused_value c.args.format c.args.builder.now line (g.V.LineValue.json c.args.value.now) _ read (c.in-Err.ensures.tells other)

pub returns-in-Ok-take_event-clause-ok : goal.returns-in-Ok-take_event-clause-ok
returns-in-Ok-take_event-clause-ok g c line read told is =
    rw c.format_after-format.ensures
    (told_by_event told c.args.format _ c.args.builder.now _ line (g.V.LineValue.json c.args.value.now) (seen c.in-Ok.event) is read c.in-Ok.ensures.tells c.in-Ok-take_event.ensures.sound (c.in-Ok-take_event.ensures.history told c.args.format is))

pub returns-in-Err-take_event-clause-err : goal.returns-in-Err-take_event-clause-err
returns-in-Err-take_event-clause-err g c other line read =
    rw c.cause_of.ensures
    (refused_event c.args.format c.args.builder.now line (g.V.LineValue.json c.args.value.now) (seen c.in-Ok.event) _ read c.in-Ok.ensures.tells (c.in-Err-take_event.ensures.err (λ memory. other (c.cause_of.ensures ∙ ap cause_of memory))))
