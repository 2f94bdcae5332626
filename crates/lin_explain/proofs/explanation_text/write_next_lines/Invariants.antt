use Rattle.std.proofs.Common.{◌≡◌, ◌++◌, drop, string_bytes}
use Rattle.lin_explain.specs.ExplanationText.{next_lines}
use Rattle.lin_explain.proofs.explanation_text.write_next_lines.Given as goal

abbrev pub invariant-loop-one : goal.invariant-loop-one
invariant-loop-one l =
    string_bytes l.out ++ next_lines l.name l.shown.calls.now l.shown.replies.now l.shown.run.now l.shown.lines.now l.shown.state.now (drop l.one-index l.next)
    ≡ string_bytes l.fn.out ++ next_lines l.name l.shown.calls.now l.shown.replies.now l.shown.run.now l.shown.lines.now l.shown.state.now l.next
