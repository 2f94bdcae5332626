use Rattle.std.proofs.Common.{ℕ}
use Rattle.lin_history.specs.Problems.Problem.{problem_of}
use Rattle.lin_search.specs.Entries.{IsLeastMinimal}
use Rattle.lin_prefixes.proofs.candidate.comes_next.Given as goal

abbrev pub invariant-loop : goal.invariant-loop
invariant-loop g l = (bound : ℕ) × IsLeastMinimal (problem_of g.O.SeqObject.after g.O.State.PartialEq.eq g.O.Reply.PartialEq.eq l.path.entries.problem) l.path.config.lifted bound l.candidate
