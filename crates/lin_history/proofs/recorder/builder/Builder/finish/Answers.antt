use Rattle.std.proofs.Common.{map, sym, subst}
use Rattle.lin_history.specs.Recorder.Recording.{IsRecordingOf}
use Rattle.lin_history.specs.Recorder.Views.{object_view}
use Rattle.lin_history.specs.Recorder.BuilderState.{recorded}
use Rattle.lin_history.proofs.RecorderLemmas.KeptLemmas.{is_history, kept_limited, made_below}
use Rattle.lin_history.proofs.recorder.builder.Builder.finish.Goals as goal

pub kept_calls-requires-clause-counted : goal.kept_calls-requires-clause-counted
kept_calls-requires-clause-counted c = made_below _ c.self.inside.calls.items _ _ _ c.self.invariant

pub new-requires-clause-history : goal.new-requires-clause-history
new-requires-clause-history c =
    let r = recorded (map object_view c.self.inside.objects.entries) c.self.inside.calls.items c.self.inside.events in
    rw c.kept_calls.ensures.kept (c.self.invariant.recording.0, is_history c.self.invariant.recording.0 r c.self.invariant.recording.1)

pub new-requires-clause-limited : goal.new-requires-clause-limited
new-requires-clause-limited c = rw c.kept_calls.ensures.kept (kept_limited c.self.inside.calls.items c.self.invariant.limited)

pub returns-clause-history : goal.returns-clause-history
returns-clause-history c events is =
    let r = recorded (map object_view c.self.inside.objects.entries) c.self.inside.calls.items c.self.inside.events in
    rw (c.new.ensures, c.kept_calls.ensures.kept) (is_history events r (subst (λ x. IsRecordingOf events x) (sym c.self.view_is) is))
