use Rattle.lin_prefixes.proofs.PartedLemmas.{AreParting}
use Rattle.lin_prefixes.proofs.conflicts.parted.Given as goal

abbrev pub invariant-loop-c : goal.invariant-loop-c
invariant-loop-c l = AreParting l.conflicts l.cut.spared.now l.cut.others.now l.c-index l.gone.items l.left.items
