use Rattle.lincheck.proofs.JudgeLemmas.{verdict_no, verdict_no_in_time}
use Rattle.std.proofs.Common.{refl}
use Rattle.lincheck.proofs.judgement.verdict_no.Goals as goal

pub returns-in_ok-run-in-Some-clause-right : goal.returns-in_ok-run-in-Some-clause-right
returns-in_ok-run-in-Some-clause-right c orders bounds so_far right =
    verdict_no c.args.history.now orders c.args.object _ c.in_ok-run-in-Some.run' c.requires.declared so_far (rw c.in-Some.is at right) c.in_ok-run-in-Some.ensures bounds

pub returns-in-None-clause-right : goal.returns-in-None-clause-right
returns-in-None-clause-right c orders bounds so_far right =
    let told = rw c.in-None.is at right in
    verdict_no_in_time c.args.history.now orders c.args.object c.requires.declared so_far told.0 bounds (told.1 refl)
