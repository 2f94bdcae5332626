use Rattle.lin_ahead.proofs.values.narrowing.narrow.Goals as goal

pub returns-then-not-branch : goal.returns-then-not-branch
returns-then-not-branch c = (
  λ start right. c.in_ok-narrow_once.ensures.0 start (c.loop.invariant.0 start right),
  λ few. c.in_ok-narrow_once.ensures.1 (c.loop.invariant.1 few),
)

pub loop-preserved : goal.loop-preserved
loop-preserved c = (
  λ start right. c.in_ok-narrow_once.ensures.0 start (c.loop.invariant.0 start right),
  λ few. c.in_ok-narrow_once.ensures.1 (c.loop.invariant.1 few),
)
