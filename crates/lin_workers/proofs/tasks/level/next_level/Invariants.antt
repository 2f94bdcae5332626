use Rattle.std.proofs.Common.{◌≡◌, ℕ, []}
use Rattle.lin_history.specs.Problems.Problem.{problem_of}
use Rattle.lin_workers.specs.Cut.{AreLevel}
use Rattle.lin_workers.specs.NextLevel.{IsFilled}
use Rattle.lin_workers.proofs.tasks.level.next_level.Given as goal

abbrev pub invariant-loop-parent : goal.invariant-loop-parent
invariant-loop-parent g l = record {
  whole : l.entries ≡ record { problem = l.problem; lifted = [] };
  filled : (k : ℕ) → AreLevel (problem_of g.O.SeqObject.after g.O.State.PartialEq.eq g.O.Reply.PartialEq.eq l.problem) k l.level → IsFilled (problem_of g.O.SeqObject.after g.O.State.PartialEq.eq g.O.Reply.PartialEq.eq l.problem) k l.level l.parent-index 0 l.next.items;
}
