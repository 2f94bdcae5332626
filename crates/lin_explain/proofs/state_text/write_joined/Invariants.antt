use Rattle.std.proofs.Common.{◌≡◌, ◌++◌, drop, string_bytes}
use Rattle.lin_explain.specs.StateText.{behind, joined}
use Rattle.lin_explain.proofs.state_text.write_joined.Given as goal

abbrev pub invariant-loop-item : goal.invariant-loop-item
invariant-loop-item l = string_bytes l.out ++ behind (drop l.item-index l.rest) ≡ string_bytes l.fn.out ++ joined l.items
