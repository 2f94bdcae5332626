use Rattle.lin_ahead.proofs.values.rules.ValueRules.strands.Goals as goal

pub are_stranded-requires-clause-owners : goal.are_stranded-requires-clause-owners
are_stranded-requires-clause-owners c = rw c.as_slice.ensures.value c.requires.owners

pub are_stranded-requires-clause-found : goal.are_stranded-requires-clause-found
are_stranded-requires-clause-found c = rw c.as_slice.ensures.value c.requires.found
