use Rattle.std.proofs.Common.{ℕ, ◌<◌, ◌+◌}
use Rattle.lin_history.specs.Problems.Problem.{problem_of}
use Rattle.lin_history.specs.Problems.Precedence.{Before}
use Rattle.lin_prefixes.proofs.by_prefixes.is_within_window.Given as goal

abbrev pub invariant-loop-c : goal.invariant-loop-c
invariant-loop-c g l = (a : ℕ) → a < l.c → Before (problem_of g.O.SeqObject.after g.O.State.PartialEq.eq g.O.Reply.PartialEq.eq l.problem) a (l.call + 1) → Before (problem_of g.O.SeqObject.after g.O.State.PartialEq.eq g.O.Reply.PartialEq.eq l.problem) a l.call
