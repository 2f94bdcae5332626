use Rattle.std.proofs.lemmas.Result.{IfOk-weaker}
use Rattle.lincheck.proofs.PrintLemmas.{verdict_of}
use Rattle.lincheck.proofs.ExplainedLemmas.{run_known, explained_no}
use Rattle.lincheck.proofs.explanation_lines.report_with_lines.Goals as goal

pub no_explained-requires-clause-known : goal.no_explained-requires-clause-known
no_explained-requires-clause-known g c = run_known c.args.history.now c.requires.verdict.0 c.args.verdict.now c.in-No.object c.in-No.run' c.as_slice.result.now c.in-No.is c.as_slice.ensures.value c.requires.verdict.1

pub report-requires : goal.report-requires
report-requires g c = verdict_of _ _ _ c.requires.verdict.1

pub returns-in_ok-witness-in-No : goal.returns-in_ok-witness-in-No
returns-in_ok-witness-in-No g c =
    IfOk-weaker c.no_explained.result _ _ (λ printed e. explained_no c.args.lines.now c.args.history.now c.args.verdict.now c.in-No.object c.in-No.run' c.as_slice.result.now printed.items c.in-No.is c.as_slice.ensures.value e) c.no_explained.ensures
