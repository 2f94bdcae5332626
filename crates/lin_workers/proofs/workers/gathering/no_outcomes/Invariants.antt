use Rattle.std.proofs.Common.{◌≡◌, None, replicate}
use Rattle.lin_workers.proofs.workers.gathering.no_outcomes.Given as goal

abbrev pub invariant-loop : goal.invariant-loop
invariant-loop l = l.outcomes.items ≡ replicate l.counter None
