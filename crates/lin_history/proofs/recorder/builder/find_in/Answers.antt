use Rattle.lin_history.proofs.RecorderLemmas.ObjectLemmas.{kind_found}
use Rattle.lin_history.proofs.recorder.builder.find_in.Goals as goal

pub returns-in-Some-get_index-clause-kind : goal.returns-in-Some-get_index-clause-kind
returns-in-Some-get_index-clause-kind c =
    kind_found c.args.objects.now.entries c.args.name.now c.in-Some.index
    (c.in-Some-get_index.field-0-0.now, c.in-Some-get_index.declaration.now) c.kind.result
    c.in-Some.ensures c.in-Some-get_index.ensures.entry c.kind.ensures
