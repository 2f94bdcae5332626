use Rattle.std.proofs.Common.{eq-eqb, ne_eqb}
use Rattle.lin_history.specs.Recorder.Views.{call_view}
use Rattle.lincheck.proofs.ReportLemmas.{counted_more, counted_skip}
use Rattle.lincheck.proofs.lines.calls_on.Goals as goal
use Rattle.lincheck.proofs.lines.calls_on.Goals.{then-call-object, else-call-object}

pub loop-index-preserved : goal.loop-index-preserved
loop-index-preserved c =
    elim c.if-call-object.branch [
      | then-call-object w ↦ rw w.count-is (counted_more _ _ _ _ (call_view c.call.result.now) c.call.ensures.call c.loop-index.invariant (eq-eqb _ _ w.if-call-object.true))
      | else-call-object w ↦ rw w.count-is (counted_skip _ _ _ _ (call_view c.call.result.now) c.call.ensures.call c.loop-index.invariant (ne_eqb _ _ w.if-call-object.false))
    ]
