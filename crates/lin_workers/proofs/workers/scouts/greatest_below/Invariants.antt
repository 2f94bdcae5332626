use Rattle.std.proofs.Common.{length}
use Rattle.lin_history.specs.Problems.Problem.{problem_of}
use Rattle.lin_search.specs.CallSet.{lifted_set}
use Rattle.lin_workers.proofs.ScoutingLemmas.{IsGreatestSoFar, calls_from}
use Rattle.lin_workers.proofs.workers.scouts.greatest_below.Given as goal

abbrev pub invariant-loop-candidate : goal.invariant-loop-candidate
invariant-loop-candidate g l =
    IsGreatestSoFar (problem_of g.O.SeqObject.after g.O.State.PartialEq.eq g.O.Reply.PartialEq.eq l.entries.problem) (lifted_set (problem_of g.O.SeqObject.after g.O.State.PartialEq.eq g.O.Reply.PartialEq.eq l.entries.problem) l.entries.lifted) l.bound l.greatest l.candidate

abbrev pub decreases-loop-candidate : goal.decreases-loop-candidate
decreases-loop-candidate g l = calls_from (length l.entries.problem.calls) l.candidate
