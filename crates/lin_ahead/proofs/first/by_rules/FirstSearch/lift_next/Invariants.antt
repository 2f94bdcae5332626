use Rattle.std.proofs.Common.{◌≡◌, length}
use Rattle.lin_search.specs.Path.{frames_of}
use Rattle.lin_history.specs.Problems.Problem.{problem_of}
use Rattle.lin_ahead.specs.First.FirstProgress.{IsFirstProgress, left_to_try}
use Rattle.lin_search.specs.Progress.{bound}
use Rattle.lin_ahead.proofs.first.by_rules.FirstSearch.lift_next.Given as goal

abbrev pub decreases-loop-at : goal.decreases-loop-at
decreases-loop-at g l =
    left_to_try (length l.self.path.entries.problem.calls) l.self.path.frames.items (bound (problem_of g.O.SeqObject.after g.O.State.PartialEq.eq g.O.Reply.PartialEq.eq l.self.path.entries.problem) l.at)

abbrev pub invariant-loop-at : goal.invariant-loop-at
invariant-loop-at g l = record {
  problem : l.self.path.entries.problem ≡ l.fn.self.path.entries.problem;
  lifts : l.self.lifts ≡ l.fn.self.lifts;
  progress : IsFirstProgress (problem_of g.O.SeqObject.after g.O.State.PartialEq.eq g.O.Reply.PartialEq.eq l.self.path.entries.problem) l.self.refuted l.self.lifts l.self.path.entries.lifted (frames_of g.O.SeqObject.undone l.self.path.frames.items l.self.path.config.state) l.self.path.config l.at;
  right : (p : _) → g.R.Rules.are_right l.fn.self.rules p → g.R.Rules.are_right l.self.rules p;
  stop : g.S.Stop.follows l.fn.stop l.stop;
}
