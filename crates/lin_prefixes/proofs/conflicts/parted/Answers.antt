use Rattle.std.proofs.Common.{arith}
use Rattle.lin_prefixes.proofs.PartedLemmas.{parting_gone, parting_left, parting_end}
use Rattle.lin_prefixes.proofs.conflicts.parted.Goals as goal
use Rattle.lin_prefixes.proofs.conflicts.parted.Goals.{then-is_in_no_run+in_ok-push, else-is_in_no_run+in_ok-push-2}

pub loop-c-preserved : goal.loop-c-preserved
loop-c-preserved c = elim c.if-is_in_no_run.branch [
  | then-is_in_no_run+in_ok-push w ↦ rw (w.gone-is, w.left-is) (parting_gone c.args.conflicts.now c.args.cut.spared.now c.args.cut.others.now c.loop-c.c-index c.loop-c.gone.items c.loop-c.left.items c.loop-c-test.true c.loop-c.invariant _ w.in_ok-push.ensures.items (c.is_in_no_run.ensures w.if-is_in_no_run.true))
  | else-is_in_no_run+in_ok-push-2 w ↦ rw (w.gone-is, w.left-is) (parting_left c.args.conflicts.now c.args.cut.spared.now c.args.cut.others.now c.loop-c.c-index c.loop-c.gone.items c.loop-c.left.items c.loop-c-test.true c.loop-c.invariant _ w.in_ok-push-2.ensures.items)
]

pub returns : goal.returns
returns c = parting_end c.args.conflicts.now c.args.cut.spared.now c.args.cut.others.now c.loop-c.c-index (record { gone = c.loop-c.gone; left = c.loop-c.left }) (let a = c.loop-c-test.false in omega (arith, a)) c.loop-c.invariant
