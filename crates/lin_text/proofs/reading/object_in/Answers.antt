use Rattle.std.proofs.Common.{◌∙◌, sym}
use Rattle.lin_history.specs.Recorder.Recording.{kind_named}
use Rattle.lin_text.proofs.NamingLemmas.{without_text, without_name, named_as, declared_as, undeclared}
use Rattle.lin_text.proofs.reading.object_in.Goals as goal

pub returns-in_default-clause-err : goal.returns-in_default-clause-err
returns-in_default-clause-err g c = without_text (kind_named c.args.builder.now) (g.V.LineValue.json c.args.value.now) c.in_default.ensures

pub returns-in-Some-find-clause-object : goal.returns-in-Some-find-clause-object
returns-in-Some-find-clause-object g c =
    named_as (g.V.LineValue.json c.args.value.now) c.in-Some.name.now c.in-Some.ensures c.in-Some-find.object.name.now c.in-Some-find.ensures.name c.in-Some-find.ensures.found.valid

pub returns-in-Some-find-clause-kind : goal.returns-in-Some-find-clause-kind
returns-in-Some-find-clause-kind g c =
    declared_as (g.V.LineValue.json c.args.value.now) c.in-Some.name.now c.in-Some.ensures (kind_named c.args.builder.now) c.in-Some-find.object.name.now c.in-Some-find.ensures.name c.in-Some-find.ensures.found.valid c.in-Some-find.object.kind c.in-Some-find.ensures.kind

pub returns-in-None-clause-err : goal.returns-in-None-clause-err
returns-in-None-clause-err g c =
    undeclared (g.V.LineValue.json c.args.value.now) c.in-Some.name.now c.in-Some.ensures (kind_named c.args.builder.now) (sym c.is_name.ensures ∙ c.if-is_name.true) c.in-None.ensures.kind

pub returns-in-None-2-clause-err : goal.returns-in-None-2-clause-err
returns-in-None-2-clause-err g c =
    without_name (g.V.LineValue.json c.args.value.now) c.in-Some.name.now c.in-Some.ensures (kind_named c.args.builder.now) (sym c.is_name.ensures ∙ c.if-is_name.false)
