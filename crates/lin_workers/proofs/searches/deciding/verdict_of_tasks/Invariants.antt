use Rattle.lin_history.specs.Problems.Problem.{problem_of}
use Rattle.lin_workers.specs.Cut.{HasNoneBefore}
use Rattle.lin_workers.specs.Outcomes.{AreOutcomes}
use Rattle.lin_workers.proofs.searches.deciding.verdict_of_tasks.Given as goal

abbrev pub invariant-loop-i : goal.invariant-loop-i
invariant-loop-i g l = record {
  outcomes : AreOutcomes (problem_of g.O.SeqObject.after g.O.State.PartialEq.eq g.O.Reply.PartialEq.eq l.problem) l.tasks l.bounds.limit l.outcomes;
  none : HasNoneBefore (problem_of g.O.SeqObject.after g.O.State.PartialEq.eq g.O.Reply.PartialEq.eq l.problem) l.tasks l.i;
  memo : g.M.Memo.changes l.fn.memo l.memo;
}
