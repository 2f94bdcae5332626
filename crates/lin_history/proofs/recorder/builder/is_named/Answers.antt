use Rattle.std.proofs.Common.{sym}
use Rattle.lin_history.proofs.RecorderLemmas.NamedAtLemmas.{named_at}
use Rattle.lin_history.proofs.recorder.builder.is_named.Goals as goal

pub returns-in-Some : goal.returns-in-Some
returns-in-Some c is =
    named_at c.args.name.now c.args.objects.now.entries c.args.object (c.in-Some.key.now, c.in-Some.field-0-1.now) c.len.ensures.unique (sym c.in-Some.ensures.entry) (rw (c.eq.ensures, c.as_str.ensures.value) at is)
