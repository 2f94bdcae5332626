use Rattle.lin_history.specs.Recorder.Views.{call_view}
use Rattle.lin_history.proofs.JoinLemmas.PlacementLemmas.{index_pushed, index_kept}
use Rattle.lin_history.proofs.recorder.indices.indices_on.Goals as goal
use Rattle.lin_history.proofs.recorder.indices.indices_on.Goals.{then-call-object+in_ok-push, else-call-object}

pub loop-index-preserved : goal.loop-index-preserved
loop-index-preserved c =
    elim c.if-call-object.branch [
      | then-call-object+in_ok-push w ↦
          rw (w.indices-is, w.in_ok-push.ensures.items) (index_pushed c.args.object c.args.history.now.calls c.loop-index.index (call_view c.call.result.now) c.loop-index.indices.items _ c.call.ensures.call w.if-call-object.true c.loop-index.invariant)
      | else-call-object w ↦
          rw w.indices-is (index_kept c.args.object c.args.history.now.calls c.loop-index.index (call_view c.call.result.now) c.loop-index.indices.items _ c.call.ensures.call w.if-call-object.false c.loop-index.invariant)
    ]
