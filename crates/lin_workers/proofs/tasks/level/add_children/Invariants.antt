use Rattle.std.proofs.Common.{◌≡◌, ℕ, Some, List}
use Rattle.std.specs.List.{slice_get}
use Rattle.std.proofs.Common.{length}
use Rattle.lin_history.specs.Problems.Problem.{problem_of}
use Rattle.lin_search.specs.Entries.{IsLeastMinimal}
use Rattle.lin_workers.specs.Cut.{Task, AreLevel}
use Rattle.lin_workers.specs.NextLevel.{IsFilled}
use Rattle.lin_workers.proofs.LevelLemmas.{calls_left}
use Rattle.lin_workers.proofs.tasks.level.add_children.Given as goal

abbrev pub decreases-loop-candidate : goal.decreases-loop-candidate
decreases-loop-candidate g l = calls_left (length l.problem.calls) l.candidate

abbrev pub invariant-loop-candidate : goal.invariant-loop-candidate
invariant-loop-candidate g l = record {
  bound : ℕ;
  least : IsLeastMinimal (problem_of g.O.SeqObject.after g.O.State.PartialEq.eq g.O.Reply.PartialEq.eq l.problem) l.parent.config.lifted bound l.candidate;
  filled : (k i : ℕ) (parents : List (Task _)) → AreLevel (problem_of g.O.SeqObject.after g.O.State.PartialEq.eq g.O.Reply.PartialEq.eq l.problem) k parents → slice_get parents i ≡ Some l.parent → IsFilled (problem_of g.O.SeqObject.after g.O.State.PartialEq.eq g.O.Reply.PartialEq.eq l.problem) k parents i 0 l.fn.next.items → IsFilled (problem_of g.O.SeqObject.after g.O.State.PartialEq.eq g.O.Reply.PartialEq.eq l.problem) k parents i bound l.next.items;
}
