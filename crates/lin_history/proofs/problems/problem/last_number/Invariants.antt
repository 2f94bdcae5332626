use Rattle.std.proofs.Common.{◌≡◌, max, drop}
use Rattle.lin_history.specs.Problems.ProblemParts.{greatest_number}
use Rattle.lin_history.proofs.problems.problem.last_number.Given as goal

-- the greatest number so far and those of the calls that are left
abbrev pub invariant-loop-call : goal.invariant-loop-call
invariant-loop-call g l = max l.last (greatest_number (drop l.call-index l.calls)) ≡ greatest_number l.calls
