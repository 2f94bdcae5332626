use Rattle.std.proofs.Common.{sym, ◌∙◌, true≢false}
use Rattle.lin_ahead.proofs.values.DueLemmas.{told_ok}
use Rattle.lin_ahead.proofs.values.due_rules.Next.comes_between.Goals as goal

pub returns : goal.returns
returns c = told_ok c.is_changed.result
    (λ changed. (
      c.in-Some.call,
      c.in-Some.between,
      c.is_due.ensures c.if-not-is_due.false,
      (λ there. true≢false (sym (c.is_in_with.ensures.left there) ∙ c.if-is_in_with.false)),
      c.precedes.ensures.0 c.if-not-precedes.false,
      changed,
    ))
    c.is_changed.ensures
