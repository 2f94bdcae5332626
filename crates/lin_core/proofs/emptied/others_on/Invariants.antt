use Rattle.std.proofs.Common.{ℕ, ◌<◌}
use Rattle.lin_history.specs.Problems.Lists.{In}
use Rattle.lin_parts.specs.Parts.{IsRising}
use Rattle.lin_core.proofs.EmptiedLemmas.{AreOthersTo}
use Rattle.lin_core.proofs.emptied.others_on.Given as goal

abbrev pub invariant-loop-c : goal.invariant-loop-c
invariant-loop-c l = record {
  rises : IsRising l.others.items;
  below : (k : ℕ) → In k l.others.items → k < l.c;
  each : AreOthersTo l.problem.calls l.event l.flags l.values l.c l.others.items;
}
