use Rattle.std.proofs.Common.{◌≡◌}
use Rattle.lin_history.specs.Problems.Problem.{problem_of}
use Rattle.lin_workers.specs.Scouting.{IsScouted, turns_of}
use Rattle.lin_workers.proofs.workers.scouts.Walk.go.Given as goal

abbrev pub invariant-loop : goal.invariant-loop
invariant-loop g l = record {
  problem : l.self.path.entries.problem ≡ l.fn.self.path.entries.problem;
  named : l.self.is_for_problem ≡ l.fn.self.is_for_problem;
  scouted : IsScouted (problem_of g.O.SeqObject.after g.O.State.PartialEq.eq g.O.Reply.PartialEq.eq l.self.path.entries.problem) l.self.path.entries.lifted (turns_of g.O.SeqObject.undone l.self.turns.items l.self.path.config.state) l.self.path.config l.at.is_up l.at.longest l.at.candidate;
  memo : g.M.Memo.changes l.fn.memo l.memo;
  stop : g.S.Stop.follows l.fn.stop l.stop;
}
