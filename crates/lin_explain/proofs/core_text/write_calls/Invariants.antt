use Rattle.std.proofs.Common.{◌≡◌, ◌++◌, drop, string_bytes}
use Rattle.lin_explain.specs.CoreText.{core_lines}
use Rattle.lin_explain.proofs.core_text.write_calls.Given as goal

abbrev pub invariant-loop-one : goal.invariant-loop-one
invariant-loop-one l = string_bytes l.out ++ core_lines l.name l.calls l.lines (drop l.one-index l.core) ≡ string_bytes l.fn.out ++ core_lines l.name l.calls l.lines l.core
