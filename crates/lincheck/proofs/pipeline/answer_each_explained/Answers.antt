use Rattle.std.proofs.lemmas.Result.{IfOk-weaker}
use Rattle.lincheck.proofs.PrintLemmas.{prints_each_explained}
use Rattle.lincheck.proofs.pipeline.answer_each_explained.Goals as goal

pub returns-in-Err : goal.returns-in-Err
returns-in-Err g c = IfOk-weaker c.refused.result _ _ (λ answer f. rw f.1 (c.in-Err.fault, rw c.as_slice.ensures.value at (c.in-Err.ensures.fault f.0), f.2)) c.refused.ensures

pub returns-in-Ok : goal.returns-in-Ok
returns-in-Ok g c =
    IfOk-weaker c.each_printed.result _ _ (λ answer p. prints_each_explained c.args.text.items c.in-Ok.history c.in-Ok.lines.items c.args.options.now answer.0 answer.1.items (rw c.as_slice.ensures.value at c.in-Ok.ensures.history) (rw c.as_slice.ensures.value at c.in-Ok.ensures.lines) (p c.args.text.items (rw c.as_slice.ensures.value at c.in-Ok.ensures.history))) (rw c.as_slice-in-Ok.ensures.value at c.each_printed.ensures)
