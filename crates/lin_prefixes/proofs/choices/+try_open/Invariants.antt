use Rattle.std.proofs.Common.{ℕ, List, length, ◌⊎◌}
use Rattle.std.specs.Prelude.{All}
use Rattle.lin_history.specs.Problems.Lists.{In}
use Rattle.lin_history.specs.Problems.Problem.{problem_of}
use Rattle.lin_history.specs.Problems.Linearizations.{IsRun}
use Rattle.lin_prefixes.specs.Prefixes.{IsBeaten, IsConflict, IsRunLacking, OneMoreIsBeaten}
use Rattle.lin_prefixes.proofs.choices.+try_open.Given as goal

abbrev pub decreases-try_open : goal.decreases-try_open
decreases-try_open g l = l.choice.lacking

abbrev pub invariant-loop-alloc : goal.invariant-loop-alloc
invariant-loop-alloc g l = record {
  run : IsRun (problem_of g.O.SeqObject.after g.O.State.PartialEq.eq g.O.Reply.PartialEq.eq l.problem) l.best;
  conflicts : All (IsConflict (problem_of g.O.SeqObject.after g.O.State.PartialEq.eq g.O.Reply.PartialEq.eq l.problem) l.choice.cut.call) l.conflicts.items;
  better : IsBeaten l.best l.fn.best;
  late : (c : ℕ) → In c l.late.items → In c l.choice.cut.others.now;
  tried : (r : List ℕ) → IsRunLacking (problem_of g.O.SeqObject.after g.O.State.PartialEq.eq g.O.Reply.PartialEq.eq l.problem) l.choice.cut.call l.choice.dropped.now l.choice.late.now l.choice.lacking r
      → OneMoreIsBeaten (problem_of g.O.SeqObject.after g.O.State.PartialEq.eq g.O.Reply.PartialEq.eq l.problem) l.choice.cut.call l.choice.cut.others.now l.fn.best r
      → IsBeaten l.best r ⊎ IsRunLacking (problem_of g.O.SeqObject.after g.O.State.PartialEq.eq g.O.Reply.PartialEq.eq l.problem) l.choice.cut.call l.choice.dropped.now l.late.items l.choice.lacking r;
}

abbrev pub decreases-loop-alloc : goal.decreases-loop-alloc
decreases-loop-alloc g l = length l.late.items
