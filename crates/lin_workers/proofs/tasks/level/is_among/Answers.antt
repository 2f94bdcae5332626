use Rattle.std.proofs.Common.{refl}
use Rattle.lin_workers.proofs.LevelLemmas.{among_found, not_below_next, not_among, not_both}
use Rattle.lin_workers.proofs.tasks.level.is_among.Goals as goal

pub returns-then-eq : goal.returns-then-eq
returns-then-eq g c =
    (λ h. among_found g.O.State.PartialEq.eq c.args.tasks.now c.args.config.now c.loop-task.task-index c.task-item.result _ c.eq.result c.loop-task-test.true c.task-item.is c.task.view_is c.eq.ensures c.if-eq.true, λ h. refl)

pub loop-task-preserved : goal.loop-task-preserved
loop-task-preserved g c =
    not_below_next g.O.State.PartialEq.eq c.args.tasks.now c.args.config.now c.loop-task.task-index c.task-item.result _ c.eq.result c.loop-task-test.true c.task-item.is c.task.view_is c.eq.ensures c.if-eq.false c.loop-task.invariant

pub returns : goal.returns
returns g c = (
  λ h. absurd (not_both _ refl h),
  λ h. absurd (not_among g.O.State.PartialEq.eq c.args.tasks.now c.args.config.now c.loop-task.task-index c.loop-task-test.false c.loop-task.invariant h),
)
