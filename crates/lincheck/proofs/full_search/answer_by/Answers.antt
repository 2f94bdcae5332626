use Rattle.lincheck.proofs.RunsLemmas.{verdict_with_time}
use Rattle.lincheck.proofs.full_search.answer_by.Goals as goal

pub returns-in-Some-clause-answer : goal.returns-in-Some-clause-answer
returns-in-Some-clause-answer c p question bounds told timed refuted =
    c.answer_of.ensures p question bounds (verdict_with_time p bounds c.in-Some.verdict (rw c.in-Some.is at told))
