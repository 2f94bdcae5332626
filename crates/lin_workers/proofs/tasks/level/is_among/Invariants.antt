use Rattle.lin_workers.proofs.LevelLemmas.{IsNotBelow}
use Rattle.lin_workers.proofs.tasks.level.is_among.Given as goal

abbrev pub invariant-loop-task : goal.invariant-loop-task
invariant-loop-task g l = IsNotBelow g.O.State.PartialEq.eq l.tasks l.config l.task-index
