use Rattle.std.specs.Ordering.{int_eq}
use Rattle.indexmap.specs.IndexMap.{get}
use Rattle.lin_lost.specs.Counts.{count_in}
use Rattle.lin_lost.proofs.RestLemmas.{AreKept}
use Rattle.lin_lost.proofs.rest.calls_kept.Given as goal

-- those of the calls so far
abbrev pub invariant-loop-call : goal.invariant-loop-call
invariant-loop-call l = AreKept l.problem.calls (count_in (get int_eq l.takes)) l.call l.kept.items
