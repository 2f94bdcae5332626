use Rattle.std.proofs.Common.{◌≡◌, true, false, length}
use Rattle.lin_history.specs.Problems.Problem.{problem_of}
use Rattle.lin_search.specs.Memo.{IsClosed}
use Rattle.lin_search.specs.Path.{frames_of}
use Rattle.lin_search.specs.Progress.{IsProgress, HoldsSearched, bound, work}
use Rattle.lin_search.proofs.depth_first.search_on.Given as goal

abbrev pub decreases-loop-told : goal.decreases-loop-told
decreases-loop-told g l =
    work (length l.path.entries.problem.calls) l.fn.path.config.lifted (frames_of g.O.SeqObject.undone l.path.frames.items l.path.config.state) l.path.config.lifted (bound (problem_of g.O.SeqObject.after g.O.State.PartialEq.eq g.O.Reply.PartialEq.eq l.path.entries.problem) l.position.candidate)

abbrev pub invariant-loop-told : goal.invariant-loop-told
invariant-loop-told g l = record {
  problem : l.path.entries.problem ≡ l.fn.path.entries.problem;
  progress : IsProgress (problem_of g.O.SeqObject.after g.O.State.PartialEq.eq g.O.Reply.PartialEq.eq l.path.entries.problem) l.fn.path.config l.fn.terms.limit l.path.entries.lifted (frames_of g.O.SeqObject.undone l.path.frames.items l.path.config.state) l.tally.left l.path.config l.position.longest l.position.candidate;
  memo : g.M.Memo.changes l.fn.memo l.memo;
  holds : l.tally.whole ≡ true → l.fn.terms.passes_over ≡ false → IsClosed (problem_of g.O.SeqObject.after g.O.State.PartialEq.eq g.O.Reply.PartialEq.eq l.fn.path.entries.problem) (g.M.Memo.holds l.fn.memo) → HoldsSearched (problem_of g.O.SeqObject.after g.O.State.PartialEq.eq g.O.Reply.PartialEq.eq l.path.entries.problem) (g.M.Memo.holds l.memo) l.fn.path.config.lifted (frames_of g.O.SeqObject.undone l.path.frames.items l.path.config.state) l.path.config l.position.candidate;
  stop : g.S.Stop.follows l.fn.stop l.stop;
  is_for : l.tally.terms.is_for_problem ≡ l.fn.terms.is_for_problem;
}
