use Rattle.std.proofs.Common.{ℕ}
use Rattle.lin_history.specs.Problems.Lists.{In}
use Rattle.lin_history.specs.Problems.Problem.{problem_of}
use Rattle.lin_prefixes.specs.Prefixes.{StandsBefore}
use Rattle.lin_prefixes.proofs.repeated_calls.repeated.Given as goal

abbrev pub invariant-loop-c : goal.invariant-loop-c
invariant-loop-c g l = (c : ℕ) → In c l.again.items → (k : ℕ) → StandsBefore (problem_of g.O.SeqObject.after g.O.State.PartialEq.eq g.O.Reply.PartialEq.eq l.problem) k l.call c
