use Rattle.std.proofs.Common.{ℕ, List, ◌++◌}
use Rattle.lin_history.specs.Problems.Problem.{problem_of}
use Rattle.lin_history.specs.Problems.Lists.{IsLongest}
use Rattle.lin_history.specs.Problems.Continuations.{IsCompletion, IsContinuation}
use Rattle.lin_history.specs.Problems.Configurations.{IsReachable}
use Rattle.lin_search.specs.LongestRun.{IsFirstLongest}
use Rattle.lin_search.specs.Progress.{free}
use Rattle.lin_search.proofs.longest_runs.longest_from.Given as goal

abbrev pub decreases-loop-call : goal.decreases-loop-call
decreases-loop-call g l = free l.config.lifted

abbrev pub invariant-loop-call : goal.invariant-loop-call
invariant-loop-call g l = record {
  reachable : IsReachable (problem_of g.O.SeqObject.after g.O.State.PartialEq.eq g.O.Reply.PartialEq.eq l.problem) l.config.lifted l.config.state;
  none : (m : List ℕ) → IsCompletion (problem_of g.O.SeqObject.after g.O.State.PartialEq.eq g.O.Reply.PartialEq.eq l.problem) l.config.lifted l.config.state m → ⊥;
  longest : IsLongest (IsContinuation (problem_of g.O.SeqObject.after g.O.State.PartialEq.eq g.O.Reply.PartialEq.eq l.problem) l.config.lifted l.config.state) l.longest.more l.longest.first;
  rest : (m : List ℕ) → IsFirstLongest (IsContinuation (problem_of g.O.SeqObject.after g.O.State.PartialEq.eq g.O.Reply.PartialEq.eq l.problem) l.config.lifted l.config.state) m → IsFirstLongest (IsContinuation (problem_of g.O.SeqObject.after g.O.State.PartialEq.eq g.O.Reply.PartialEq.eq l.problem) l.fn.config.lifted l.fn.config.state) (l.calls.items ++ m);
  memo : g.M.Memo.changes l.fn.memo l.memo;
}
