use Rattle.std.proofs.Common.{◌≡◌, ◌+◌, refl, subst}
use Rattle.lincheck.specs.Stored.{judged_of}
use Rattle.lincheck.proofs.JudgeLemmas.{breaks, verdict_undecided}
use Rattle.lincheck.specs.Verdict.{IsVerdict}
use Rattle.lincheck.proofs.judgement.order_or_end.Goals as goal

pub returns-in_ok-verdict-in-No-clause-end : goal.returns-in_ok-verdict-in-No-clause-end
returns-in_ok-verdict-in-No-clause-end c orders bounds so_far right b e =
    subst (IsVerdict c.args.history.now bounds) (breaks e)
    (c.in_ok-verdict-in-No.ensures.right orders bounds so_far (rw c.in-No.is at right))

pub returns-in-Undecided-clause-end : goal.returns-in-Undecided-clause-end
returns-in-Undecided-clause-end c orders limit so_far right b e =
    subst (IsVerdict c.args.history.now limit) (breaks e)
    (verdict_undecided c.args.history.now orders c.args.object c.requires.declared so_far limit (rw c.in-Undecided.is at right))

pub returns-in_ok-verdict-in-No-clause-judged : goal.returns-in_ok-verdict-in-No-clause-judged
returns-in_ok-verdict-in-No-clause-judged c v e = subst (λ verdict. judged_of c.args.history.now verdict ≡ c.args.object + 1) (breaks e) c.in_ok-verdict-in-No.ensures.judged

pub returns-in-Undecided-clause-judged : goal.returns-in-Undecided-clause-judged
returns-in-Undecided-clause-judged c v e = subst (λ verdict. judged_of c.args.history.now verdict ≡ c.args.object + 1) (breaks e) refl
