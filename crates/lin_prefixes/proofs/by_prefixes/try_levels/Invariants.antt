use Rattle.std.proofs.Common.{ℕ, List, ◌<◌}
use Rattle.std.specs.Prelude.{All}
use Rattle.lin_history.specs.Problems.Problem.{problem_of}
use Rattle.lin_history.specs.Problems.Linearizations.{IsRun}
use Rattle.lin_prefixes.specs.Prefixes.{IsBeaten, IsConflict, IsRunLacking}
use Rattle.lin_prefixes.proofs.by_prefixes.try_levels.Given as goal

abbrev pub invariant-loop-lacking : goal.invariant-loop-lacking
invariant-loop-lacking g l = record {
  run : IsRun (problem_of g.O.SeqObject.after g.O.State.PartialEq.eq g.O.Reply.PartialEq.eq l.problem) l.best;
  better : IsBeaten l.best l.fn.best;
  conflicts : All (IsConflict (problem_of g.O.SeqObject.after g.O.State.PartialEq.eq g.O.Reply.PartialEq.eq l.problem) l.cut.call) l.conflicts.items;
  tried : (d : ℕ) → d < l.lacking → (r : List ℕ) → IsRunLacking (problem_of g.O.SeqObject.after g.O.State.PartialEq.eq g.O.Reply.PartialEq.eq l.problem) l.cut.call l.cut.spared.now l.cut.others.now d r → IsBeaten l.best r;
}
