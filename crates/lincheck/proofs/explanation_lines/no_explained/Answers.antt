use Rattle.lincheck.specs.Explained.{end_text}
use Rattle.lincheck.proofs.ExplainedLemmas.{head_first}
use Rattle.lincheck.proofs.explanation_lines.no_explained.Goals as goal

pub returns : goal.returns
returns c =
    let end = c.in_ok-write_end.ensures in (
      c.args.witness.now,
      c.requires.witness,
      end.0,
      end.1,
      rw c.into_bytes.ensures.value (head_first c.args.history.now c.args.object c.args.lines.now c.args.witness.now (end_text c.args.history.now c.args.object c.args.run.now end.0) _ _ _ c.new-out.ensures.bytes c.in_ok-write_head.ensures end.2),
    )
