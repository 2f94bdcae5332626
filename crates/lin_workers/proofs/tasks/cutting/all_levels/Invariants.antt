use Rattle.lin_history.specs.Problems.Problem.{problem_of}
use Rattle.lin_workers.specs.Levels.{AreLevels}
use Rattle.lin_workers.proofs.tasks.cutting.all_levels.Given as goal

abbrev pub invariant-loop : goal.invariant-loop
invariant-loop g l = AreLevels (problem_of g.O.SeqObject.after g.O.State.PartialEq.eq g.O.Reply.PartialEq.eq l.problem) l.want l.counter l.levels.widest.items l.levels.last.items
