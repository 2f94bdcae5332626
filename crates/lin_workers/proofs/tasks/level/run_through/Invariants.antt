use Rattle.std.proofs.Common.{◌≡◌, take}
use Rattle.lin_workers.proofs.tasks.level.run_through.Given as goal

abbrev pub invariant-loop-before : goal.invariant-loop-before
invariant-loop-before l = l.calls.items ≡ take l.before-index l.run
