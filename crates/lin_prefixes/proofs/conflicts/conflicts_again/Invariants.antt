use Rattle.std.specs.Prelude.{All}
use Rattle.lin_history.specs.Problems.Problem.{problem_of}
use Rattle.lin_prefixes.specs.Prefixes.{IsConflict}
use Rattle.lin_prefixes.proofs.conflicts.conflicts_again.Given as goal

abbrev pub invariant-loop-hint : goal.invariant-loop-hint
invariant-loop-hint g l = All (IsConflict (problem_of g.O.SeqObject.after g.O.State.PartialEq.eq g.O.Reply.PartialEq.eq l.problem) l.cut.call) l.conflicts.items
