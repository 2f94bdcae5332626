use Rattle.lin_ahead.proofs.values.due_rules.Next.two_change.Goals as goal

pub returns-in_ok-is_changed-2 : goal.returns-in_ok-is_changed-2
returns-in_ok-is_changed-2 c = λ changed. (
  c.in-Some.one,
  c.in-Some.other,
  c.is_due.ensures c.if-not-is_due.false,
  c.is_due-else-not-is_due.ensures c.if-not-is_due-2.false,
  c.if-one-other.false,
  c.in_ok-is_changed.ensures c.if-branch.true,
  c.in_ok-is_changed-2.ensures changed,
)
