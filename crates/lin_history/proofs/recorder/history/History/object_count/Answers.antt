use Rattle.std.proofs.Common.{length, ap, arith}
use Rattle.std.proofs.lemmas.List.{length-map}
use Rattle.lin_history.specs.Recorder.RecordedHistory.{RecordedHistory}
use Rattle.lin_history.specs.Recorder.Views.{object_view}
use Rattle.lin_history.proofs.recorder.history.History.object_count.Goals as goal

pub returns-clause-count : goal.returns-clause-count
returns-clause-count c =
    let kept = c.len.ensures in
    let mapped = length-map c.self.inside.objects.entries object_view in
    let seen = ap (λ (h : RecordedHistory). length h.objects) c.self.view_is in
    omega (arith, kept, mapped, seen)
