use Rattle.std.proofs.Common.{◌≡◌, take}
use Rattle.lin_workers.proofs.tasks.level.lift_run.Given as goal

abbrev pub invariant-loop-call : goal.invariant-loop-call
invariant-loop-call g l = record {
  problem : l.entries.problem ≡ l.fn.entries.problem;
  lifted : l.entries.lifted ≡ take l.call-index l.run;
}
