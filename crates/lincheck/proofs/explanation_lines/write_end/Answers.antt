use Rattle.std.proofs.lemmas.Result.{on_ok_weaker}
use Rattle.lincheck.specs.Report.{length_line, last_lines}
use Rattle.lincheck.proofs.ExplainedLemmas.{three_behind}
use Rattle.lincheck.proofs.explanation_lines.write_end.Goals as goal

pub returns : goal.returns
returns c =
    on_ok_weaker c.write_run_explained.result (λ w. (w.0, w.1, three_behind _ (length_line c.args.history.now c.args.object c.args.run.now) (last_lines c.args.history.now c.args.run.now) w.0 _ _ _ c.in_ok-write_length.ensures c.in_ok-write_last_calls.ensures w.2))
    c.write_run_explained.ensures
