use Rattle.std.proofs.lemmas.Result.{IfOk-weaker}
use Rattle.lincheck.proofs.PrintLemmas.{prints_report}
use Rattle.lincheck.proofs.pipeline.answer_by_report.Goals as goal

pub returns-in-Err : goal.returns-in-Err
returns-in-Err g c = IfOk-weaker c.refused.result _ _ (λ answer f. rw f.1 (c.in-Err.fault, rw c.as_slice.ensures.value at (c.in-Err.ensures.fault f.0), f.2)) c.refused.ensures

pub returns-in-Ok : goal.returns-in-Ok
returns-in-Ok g c =
    IfOk-weaker c.verdict_printed.result _ _ (λ answer p. prints_report c.args.text.items c.in-Ok.history c.args.options.now answer.0 answer.1.items (rw c.as_slice.ensures.value at c.in-Ok.ensures.history) (p c.args.text.items (rw c.as_slice.ensures.value at c.in-Ok.ensures.history))) c.verdict_printed.ensures
