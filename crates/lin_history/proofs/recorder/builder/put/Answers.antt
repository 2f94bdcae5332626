use Rattle.std.proofs.Common.{◌≡◌, None, string_eq, map, ap, sym, ◌∙◌}
use Rattle.indexmap.specs.IndexMap.{get}
use Rattle.indexmap.proofs.CallerLemmas.{insert_entry-new}
use Rattle.lin_history.specs.Recorder.Views.{object_view}
use Rattle.lin_history.proofs.RecorderLemmas.OutcomeLemmas.{not_err}
use Rattle.lin_history.proofs.RecorderLemmas.ObjectLemmas.{absent_key, pushed_seen}
use Rattle.lin_history.proofs.recorder.builder.put.Goals as goal

pub returns-clause-objects : goal.returns-clause-objects
returns-clause-objects c =
    let none : get string_eq c.args.objects.now c.in_ok-key.key ≡ None = absent_key c.args.objects.now.entries c.args.name.now c.in_ok-key.key c.in_ok-key.ensures.ok c.requires in
    let entries = not_err c.insert.result _ c.insert.ensures.entries (sym c.is_err.ensures.value ∙ c.if-is_err.false) in
    ap (map object_view) (entries ∙ insert_entry-new string_eq c.args.objects.now c.in_ok-key.key c.args.declaration none)
    ∙ pushed_seen c.args.objects.now.entries c.args.declaration c.args.name.now c.in_ok-key.key c.in_ok-key.ensures.ok
