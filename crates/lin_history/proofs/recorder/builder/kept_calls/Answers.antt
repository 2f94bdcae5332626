use Rattle.std.proofs.Common.{◌≡◌, length, map, drop, ap, ◌∙◌}
use Rattle.lin_history.specs.Recorder.Views.{call_view}
use Rattle.lin_history.proofs.RecorderLemmas.IndexLemmas.{written_over}
use Rattle.lin_history.proofs.RecorderLemmas.KeptLemmas.{kept_seen, kept_below, kept_limited}
use Rattle.lin_history.proofs.recorder.builder.kept_calls.Goals as goal

pub number_calls-requires-clause-counted : goal.number_calls-requires-clause-counted
number_calls-requires-clause-counted c =
    rw (c.as_mut_slice.ensures.value, c.as_mut_slice-2.ensures.value, c.without_failed-kept.ensures) (kept_below c.args.calls.items _ c.requires.counted)

pub number_calls-requires-clause-limited : goal.number_calls-requires-clause-limited
number_calls-requires-clause-limited c =
    rw (c.as_mut_slice.ensures.value, c.without_failed-kept.ensures, kept_seen c.args.calls.items) (kept_limited c.args.calls.items c.requires.limited)

pub returns-clause-kept : goal.returns-clause-kept
returns-clause-kept c =
    let same : length c.number_calls.new.calls ≡ c.without_failed-kept.result.len = c.number_calls.auto.calls ∙ c.as_mut_slice.ensures.len in
    rw (written_over c.without_failed-kept.result.len c.number_calls.new.calls (drop (length c.number_calls.new.calls) c.without_failed-kept.result.items) same)
    (c.number_calls.ensures.same ∙ ap (map call_view) (c.as_mut_slice.ensures.value ∙ c.without_failed-kept.ensures) ∙ kept_seen c.args.calls.items)

pub returns-clause-numbered : goal.returns-clause-numbered
returns-clause-numbered c =
    let same : length c.number_calls.new.calls ≡ c.without_failed-kept.result.len = c.number_calls.auto.calls ∙ c.as_mut_slice.ensures.len in
    rw (written_over c.without_failed-kept.result.len c.number_calls.new.calls (drop (length c.number_calls.new.calls) c.without_failed-kept.result.items) same) c.number_calls.ensures.numbered
