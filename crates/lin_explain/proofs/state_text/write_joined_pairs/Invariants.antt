use Rattle.std.proofs.Common.{◌≡◌, ◌++◌, drop, string_bytes}
use Rattle.lin_explain.specs.StateText.{behind_pairs, joined_pairs}
use Rattle.lin_explain.proofs.state_text.write_joined_pairs.Given as goal

abbrev pub invariant-loop-pair : goal.invariant-loop-pair
invariant-loop-pair l = string_bytes l.out ++ behind_pairs (drop l.pair-index l.rest) ≡ string_bytes l.fn.out ++ joined_pairs l.pairs
