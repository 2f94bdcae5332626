use Rattle.std.proofs.Common.{◌≡◌, ◌-◌}
use Rattle.lin_search.specs.Path.{frames_of}
use Rattle.lin_history.specs.Problems.Problem.{problem_of}
use Rattle.lin_ahead.specs.First.FirstProgress.{IsFirstProgress}
use Rattle.lin_ahead.proofs.first.by_rules.FirstSearch.go.Given as goal

abbrev pub decreases-loop-self : goal.decreases-loop-self
decreases-loop-self g l = l.lifts - l.self.lifts

abbrev pub invariant-loop-self : goal.invariant-loop-self
invariant-loop-self g l = record {
  problem : l.self.path.entries.problem ≡ l.fn.self.path.entries.problem;
  progress : IsFirstProgress (problem_of g.O.SeqObject.after g.O.State.PartialEq.eq g.O.Reply.PartialEq.eq l.self.path.entries.problem) l.self.refuted l.self.lifts l.self.path.entries.lifted (frames_of g.O.SeqObject.undone l.self.path.frames.items l.self.path.config.state) l.self.path.config l.candidate;
  right : (p : _) → g.R.Rules.are_right l.fn.self.rules p → g.R.Rules.are_right l.self.rules p;
  stop : g.S.Stop.follows l.fn.stop l.stop;
}
