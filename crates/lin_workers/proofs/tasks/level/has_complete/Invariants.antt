use Rattle.lin_history.specs.Problems.Problem.{problem_of}
use Rattle.lin_workers.proofs.LevelLemmas.{HasNoneBelow}
use Rattle.lin_workers.proofs.tasks.level.has_complete.Given as goal

abbrev pub invariant-loop-task : goal.invariant-loop-task
invariant-loop-task g l = HasNoneBelow (problem_of g.O.SeqObject.after g.O.State.PartialEq.eq g.O.Reply.PartialEq.eq l.problem) l.level l.task-index
