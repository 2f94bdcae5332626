use Rattle.std.proofs.Common.{◌≡◌, map, take}
use Rattle.lin_history.specs.Problems.AnyProblem.{any_problem}
use Rattle.lincheck.specs.Explained.{told_in}
use Rattle.lincheck.proofs.witness.told_of.Given as goal

abbrev pub invariant-loop-number : goal.invariant-loop-number
invariant-loop-number l = l.calls.items ≡ map (told_in (any_problem l.problem) l.core.from l.core.event) (take l.number-index l.numbers)
