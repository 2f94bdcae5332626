use Rattle.std.proofs.Common.{◌≡◌, ◌++◌, drop, string_bytes}
use Rattle.lin_explain.specs.TouchingText.{touch_lines}
use Rattle.lin_explain.proofs.touching_text.write_touch_lines.Given as goal

abbrev pub invariant-loop-one : goal.invariant-loop-one
invariant-loop-one l = string_bytes l.out ++ touch_lines l.shown.calls.now l.shown.run.now l.shown.lines.now (drop l.one-index l.found) ≡ string_bytes l.fn.out ++ touch_lines l.shown.calls.now l.shown.run.now l.shown.lines.now l.found
