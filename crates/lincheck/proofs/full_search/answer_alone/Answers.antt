use Rattle.std.proofs.Common.{subst}
use Rattle.lin_workers.specs.Bounds.{without_time}
use Rattle.lincheck.specs.ObjectAnswer.{IsAnswered}
use Rattle.lincheck.proofs.JudgeLemmas.{breaks}
use Rattle.lincheck.proofs.RunsLemmas.{verdict_in_bounds}
use Rattle.lincheck.proofs.full_search.answer_alone.Goals as goal

pub returns-in-Decided : goal.returns-in-Decided
returns-in-Decided c p question bounds told refuted b e =
    let decided = rw c.in-Decided.is at told in
    subst (IsAnswered p question bounds) (breaks e) (c.answer_by.ensures.answer p question bounds (verdict_in_bounds p (without_time bounds) c.in-Decided.verdict decided.0) tt refuted, decided.1)

pub returns-in-TimeUp : goal.returns-in-TimeUp
returns-in-TimeUp c p question bounds told refuted b e =
    let up = rw c.in-TimeUp.is at told in
    subst (IsAnswered p question bounds) (breaks e) (c.answer_by-in-TimeUp.ensures.answer p question bounds tt up.0 refuted, up.1)
