use Rattle.std.proofs.Common.{ℕ, ◌≤◌, drop, ◌⊎◌}
use Rattle.lin_history.specs.Problems.Lists.{In}
use Rattle.lin_history.specs.Problems.Precedence.{IsCompleted}
use Rattle.lin_history.specs.Problems.Problem.{problem_of}
use Rattle.lin_prefixes.proofs.conflicts.are_completed_up_to.Given as goal

abbrev pub invariant-loop-c : goal.invariant-loop-c
invariant-loop-c g l = (b : ℕ) → In b l.calls → ((b ≤ l.call) × IsCompleted (problem_of g.O.SeqObject.after g.O.State.PartialEq.eq g.O.Reply.PartialEq.eq l.problem) b) ⊎ In b (drop l.c-index l.calls)
