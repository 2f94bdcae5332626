use Rattle.lin_prefixes.proofs.conflicts.is_in_no_run.Given as goal

abbrev pub invariant-loop-conflict : goal.invariant-loop-conflict
invariant-loop-conflict l = Unit {0}
