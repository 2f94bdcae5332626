use Rattle.lincheck.proofs.JudgeLemmas.{asks_one}
use Rattle.lincheck.proofs.StoredLemmas.{nothing_stored}
use Rattle.lincheck.proofs.turns.answer_object.Goals as goal

pub returns-in-Some-clause-answer : goal.returns-in-Some-clause-answer
returns-in-Some-clause-answer g c = (rw c.in-Some.is at c.in_ok-order.ensures.order, nothing_stored _)

pub returns-then-not-is_small-clause-answer : goal.returns-then-not-is_small-clause-answer
returns-then-not-is_small-clause-answer g c = ((c.in_ok-has_order.ensures.known.refuted c.if-known.true, λ asked. absurd (asks_one c.args.question (c.asks_no_run.ensures c.if-asks_no_run.true) asked)), nothing_stored _)

pub returns-then-branch-clause-answer : goal.returns-then-branch-clause-answer
returns-then-branch-clause-answer g c = (c.in_ok-has_order.ensures.order c.if-branch.true, nothing_stored _)
