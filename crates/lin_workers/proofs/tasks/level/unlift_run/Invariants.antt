use Rattle.std.proofs.Common.{◌≡◌, ◌≤◌, length, take}
use Rattle.lin_workers.proofs.tasks.level.unlift_run.Given as goal

abbrev pub decreases-loop-left : goal.decreases-loop-left
decreases-loop-left g l = l.left

abbrev pub invariant-loop-left : goal.invariant-loop-left
invariant-loop-left g l = record {
  within : l.left ≤ length l.run;
  problem : l.entries.problem ≡ l.fn.entries.problem;
  lifted : l.entries.lifted ≡ take l.left l.run;
}
