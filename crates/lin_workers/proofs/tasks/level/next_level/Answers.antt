use Rattle.std.proofs.Common.{◌∙◌, arith}
use Rattle.lin_workers.proofs.LevelLemmas.{item_at, task_at, filled_level, filled_none, filled_end}
use Rattle.lin_search.specs.SameLemmas.{alike_itself}
use Rattle.lin_workers.proofs.tasks.level.next_level.Goals as goal

pub add_children-requires-clause-task : goal.add_children-requires-clause-task
add_children-requires-clause-task g c κs sync = (c.requires.0, task_at _ _ _ _ _ c.requires.1.each (item_at _ _ _ c.loop-parent-test.true c.parent-item.is))

pub loop-parent-init : goal.loop-parent-init
loop-parent-init g c = record { whole = c.in_ok-entries.ensures; filled = λ k level. rw c.new-next.ensures.items (filled_none _ k c.args.level.now) }

pub loop-parent-preserved : goal.loop-parent-preserved
loop-parent-preserved g c = record { whole = c.in_ok-add_children.ensures.whole ∙ c.loop-parent.invariant.whole; filled = λ k level. c.in_ok-add_children.ensures.filled k _ _ level (item_at _ _ _ c.loop-parent-test.true c.parent-item.is) (c.loop-parent.invariant.filled k level) }

pub returns : goal.returns
returns g c = λ k level. filled_level _ (alike_itself c.lawful.ensures c.args.problem.now) k c.args.level.now _ level (filled_end _ k c.loop-parent.parent-index c.args.level.now _ (let m = c.loop-parent-test.false in let n = c.loop-parent.auto.parent-index-end in omega (arith, m, n)) (c.loop-parent.invariant.filled k level))
