use Rattle.std.proofs.lemmas.Result.{IfOk-weaker}
use Rattle.lincheck.proofs.PrintLemmas.{verdict_of, explained_not}
use Rattle.lincheck.proofs.explanation_lines.report_explained.Goals as goal

pub report-requires : goal.report-requires
report-requires g c = verdict_of _ _ _ c.requires.verdict.1

pub returns-in-None : goal.returns-in-None
returns-in-None g c = rw c.in-None.is (IfOk-weaker c.report.result _ _ (λ printed e. explained_not c.args.history.now c.args.verdict.now printed.items e) c.report.ensures)
