use Rattle.std.proofs.Common.{◌≡◌}
use Rattle.lin_history.specs.Problems.Problem.{problem_of}
use Rattle.lin_search.specs.CallSet.{lifted_set}
use Rattle.lin_search.proofs.LiftedSetLemmas.{IsFilledTo}
use Rattle.lin_search.proofs.path.entries_without.Given as goal

abbrev pub invariant-loop-call : goal.invariant-loop-call
invariant-loop-call g l = record {
  problem : l.entries.problem ≡ l.problem;
  filled : IsFilledTo (lifted_set (problem_of g.O.SeqObject.after g.O.State.PartialEq.eq g.O.Reply.PartialEq.eq l.problem) l.entries.lifted) l.config.lifted l.call;
}
