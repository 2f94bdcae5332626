use Rattle.std.proofs.Common.{◌-◌, ◌∙◌, take}
use Rattle.lin_workers.proofs.RunLemmas.{last_taken_of}
use Rattle.lin_workers.proofs.tasks.level.unlift_run.Goals as goal

pub unlift-requires : goal.unlift-requires
unlift-requires g c = record {
  last = (take (c.loop-left.left - 1) c.args.run.now, c.loop-left.invariant.lifted ∙ last_taken_of c.args.run.now c.loop-left.left c.loop-left-test.true c.loop-left.invariant.within);
}
