use Rattle.std.proofs.Common.{◌≡◌, ◌++◌, drop}
use Rattle.lin_explain.specs.StateText.{pairs_of}
use Rattle.lin_explain.proofs.state_text.pairs_of.Given as goal

abbrev pub invariant-loop-key : goal.invariant-loop-key
invariant-loop-key l = l.found.items ++ pairs_of (drop l.key-index l.keys) l.pairs ≡ pairs_of l.keys l.pairs
