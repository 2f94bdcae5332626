use Rattle.std.proofs.Common.{IfSome, map, subst}
use Rattle.lin_history.specs.Recorder.Found.{IsFound}
use Rattle.lin_history.specs.Recorder.Views.{object_view}
use Rattle.lin_history.specs.Recorder.BuilderState.{recorded}
use Rattle.lin_history.proofs.RecorderLemmas.FoundLemmas.{is_found}
use Rattle.lin_history.proofs.recorder.builder.Builder.find.Goals as goal

pub returns-clause-found : goal.returns-clause-found
returns-clause-found c =
    let r = recorded (map object_view c.self.inside.objects.entries) c.self.inside.calls.items c.self.inside.events in
    subst (λ h. IfSome c.find_in.result (IsFound h)) c.self.view_is
    (is_found r c.self.invariant.named c.args.name.now c.find_in.result c.find_in.ensures.name c.find_in.ensures.index)
