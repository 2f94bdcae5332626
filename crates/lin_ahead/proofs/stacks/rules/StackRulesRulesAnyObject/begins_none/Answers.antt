use Rattle.lin_ahead.proofs.stacks.rules.StackRulesRulesAnyObject.begins_none.Goals as goal

pub takes_what_is_owed-requires-clause-right : goal.takes_what_is_owed-requires-clause-right
takes_what_is_owed-requires-clause-right c = rw c.as_slice-owed.ensures.value c.requires.right.owed
