use Rattle.lin_workers.proofs.RunLemmas.{leads_reachable}
use Rattle.lin_workers.proofs.LevelLemmas.{item_at, task_at}
use Rattle.lin_workers.proofs.workers.scouting.scout_all.Goals as goal

pub scout_one-requires-clause-reachable : goal.scout_one-requires-clause-reachable
scout_one-requires-clause-reachable g c κs sync =
    let at = item_at c.args.job.now.tasks.now c.loop-number.number c.index-tasks-number.result c.loop-number-test.true c.index-tasks-number.is in
    leads_reachable _ _ _ _ (task_at _ _ _ _ _ c.requires.cut.1.level.each at).least.0
