use Rattle.std.proofs.Common.{ℕ, ◌<◌, ◌/◌}
use Rattle.lin_search.specs.FewerCalls.{IsFewerAt}
use Rattle.lin_search.proofs.call_set.CallSet.is_fewer.Given as goal

abbrev pub invariant-loop-index : goal.invariant-loop-index
invariant-loop-index l = (c : ℕ) → c / 64 < l.index → IsFewerAt l.self l.other l.of c
