use Rattle.std.proofs.lemmas.Result.{on_ok_weaker}
use Rattle.lincheck.proofs.ExplainedLemmas.{name_is, head_behind}
use Rattle.lincheck.proofs.explanation_lines.write_head.Goals as goal

pub returns : goal.returns
returns c =
    on_ok_weaker c.write_witness.result (λ written. head_behind c.args.history.now c.args.object c.args.lines.now c.object.result.name.now c.args.calls.now c.args.witness.now _ _ _ (name_is c.args.history.now c.args.object _ c.object.ensures) c.requires.calls c.in_ok-write_name.ensures written)
    c.write_witness.ensures
