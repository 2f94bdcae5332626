use Rattle.std.proofs.Common.{◌≡◌, ◌∙◌, []}
use Rattle.std.proofs.lemmas.Result.{on_ok_weaker}
use Rattle.lin_explain.specs.ExplanationText.{keys_with, state_line}
use Rattle.lin_explain.proofs.TextLemmas.{behind_both}
use Rattle.lin_explain.proofs.explanation_text.write_explanation.Goals as goal

pub returns : goal.returns
returns c =
    let keys : c.as_slice.result.now ≡ keys_with c.args.shown.now.calls.now [] c.args.next.now = c.as_slice.ensures.value ∙ c.in_ok-keys.ensures in
    let first = rw keys at c.in_ok-write_state_line.ensures in
    on_ok_weaker c.write_next_lines.result (λ second. behind_both _ _ _ (state_line c.args.name.now (keys_with c.args.shown.now.calls.now [] c.args.next.now) c.args.shown.now.state.now) _ first second)
    c.write_next_lines.ensures
