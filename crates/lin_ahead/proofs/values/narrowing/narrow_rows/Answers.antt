use Rattle.lin_ahead.proofs.values.narrowing.narrow_rows.Goals as goal

pub loop-call-preserved : goal.loop-call-preserved
loop-call-preserved c = (
  λ start right. c.in_ok-narrow_row.ensures.0 start (c.loop-call.invariant.0 start right),
  λ few. c.in_ok-narrow_row.ensures.1 (c.loop-call.invariant.1 few),
)
