use Rattle.lin_history.specs.Problems.Problem.{problem_of}
use Rattle.lin_workers.proofs.LevelLemmas.{reachable_item, complete_found, none_below_next, none_complete, absent_by}
use Rattle.lin_workers.proofs.tasks.level.has_complete.Goals as goal

pub is_complete-requires : goal.is_complete-requires
is_complete-requires g c =
    reachable_item (problem_of g.O.SeqObject.after g.O.State.PartialEq.eq g.O.Reply.PartialEq.eq c.args.problem.now) c.args.level.now c.loop-task.task-index c.task-item.result _ c.loop-task-test.true c.task-item.is c.task.view_is c.requires.0 c.requires.1

pub returns-then-is_complete-clause-complete : goal.returns-then-is_complete-clause-complete
returns-then-is_complete-clause-complete g c = λ h.
    complete_found (problem_of g.O.SeqObject.after g.O.State.PartialEq.eq g.O.Reply.PartialEq.eq c.args.problem.now) c.args.level.now c.loop-task.task-index c.task-item.result _ c.loop-task-test.true c.task-item.is c.task.view_is (c.is_complete.ensures.0 c.if-is_complete.true)

pub loop-task-preserved : goal.loop-task-preserved
loop-task-preserved g c =
    none_below_next (problem_of g.O.SeqObject.after g.O.State.PartialEq.eq g.O.Reply.PartialEq.eq c.args.problem.now) c.args.level.now c.loop-task.task-index c.task-item.result _ c.loop-task-test.true c.task-item.is c.task.view_is (λ h. absent_by _ (c.is_complete.ensures.1 h) c.if-is_complete.false) c.loop-task.invariant

pub returns-clause-incomplete : goal.returns-clause-incomplete
returns-clause-incomplete g c = λ h.
    none_complete (problem_of g.O.SeqObject.after g.O.State.PartialEq.eq g.O.Reply.PartialEq.eq c.args.problem.now) c.args.level.now c.loop-task.task-index c.loop-task-test.false c.loop-task.invariant
