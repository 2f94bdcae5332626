use Rattle.std.proofs.Common.{◌≡◌, ℕ, List, ◌++◌, take}
use Rattle.lin_history.specs.Problems.Problem.{problem_of}
use Rattle.lin_history.specs.Problems.Continuations.{IsContinuation}
use Rattle.lin_history.specs.Problems.Configurations.{IsReachable}
use Rattle.lin_search.specs.CallSet.{lifted_set}
use Rattle.lin_prefixes.proofs.candidate.is_run.Given as goal

abbrev pub invariant-loop-c : goal.invariant-loop-c
invariant-loop-c g l = record {
  problem : l.path.entries.problem ≡ l.problem;
  lifted : lifted_set (problem_of g.O.SeqObject.after g.O.State.PartialEq.eq g.O.Reply.PartialEq.eq l.problem) l.path.entries.lifted ≡ l.path.config.lifted;
  reachable : IsReachable (problem_of g.O.SeqObject.after g.O.State.PartialEq.eq g.O.Reply.PartialEq.eq l.problem) l.path.config.lifted l.path.config.state;
  rest : (m : List ℕ) → IsContinuation (problem_of g.O.SeqObject.after g.O.State.PartialEq.eq g.O.Reply.PartialEq.eq l.problem) l.path.config.lifted l.path.config.state m
      → IsContinuation (problem_of g.O.SeqObject.after g.O.State.PartialEq.eq g.O.Reply.PartialEq.eq l.problem) l.initial.path.config.lifted l.initial.path.config.state (take l.c-index l.calls ++ m);
}
