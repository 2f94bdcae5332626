use Rattle.lin_tests.proofs.VerdictLemmas.{verdict_of}
use Rattle.lin_tests.proofs.tests.reports.judged.Goals as goal

pub returns-in-Ok-check : goal.returns-in-Ok-check
returns-in-Ok-check g c = verdict_of _ _ _ c.in-Ok-check.ensures.verdict
