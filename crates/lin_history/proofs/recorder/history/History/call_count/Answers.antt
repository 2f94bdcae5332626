use Rattle.std.proofs.Common.{length, ap, arith}
use Rattle.std.proofs.lemmas.List.{length-map}
use Rattle.lin_history.specs.Recorder.RecordedHistory.{RecordedHistory}
use Rattle.lin_history.specs.Recorder.Views.{call_view}
use Rattle.lin_history.proofs.recorder.history.History.call_count.Goals as goal

pub returns-clause-count : goal.returns-clause-count
returns-clause-count c =
    let kept = c.len.ensures in
    let mapped = length-map c.self.inside.calls.items call_view in
    let seen = ap (λ (h : RecordedHistory). length h.calls) c.self.view_is in
    omega (arith, kept, mapped, seen)
