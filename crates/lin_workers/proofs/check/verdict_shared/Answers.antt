use Rattle.lin_workers.proofs.VerdictLemmas.{with_time}
use Rattle.lin_workers.proofs.check.verdict_shared.Goals as goal

pub returns-in-Some-clause-verdict : goal.returns-in-Some-clause-verdict
returns-in-Some-clause-verdict g c = with_time _ c.args.bounds.now c.in-Some.verdict (rw c.in-Some.is at c.in_ok-verdict.ensures.verdict)
