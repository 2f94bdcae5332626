use Rattle.lincheck.specs.Report.{not_found_line}
use Rattle.lincheck.proofs.ExplainedLemmas.{head_first}
use Rattle.lincheck.proofs.explanation_lines.no_in_time_explained.Goals as goal

pub returns : goal.returns
returns c = (
  c.args.witness.now,
  c.requires.witness,
  rw c.into_bytes.ensures.value (head_first c.args.history.now c.args.object c.args.lines.now c.args.witness.now not_found_line _ _ _ c.new-out.ensures.bytes c.in_ok-write_head.ensures c.in_ok-write_not_found.ensures),
)
