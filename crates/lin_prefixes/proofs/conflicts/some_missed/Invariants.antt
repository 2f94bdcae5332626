use Rattle.lin_prefixes.proofs.conflicts.some_missed.Given as goal

abbrev pub invariant-loop-conflict : goal.invariant-loop-conflict
invariant-loop-conflict l = Unit {0}
