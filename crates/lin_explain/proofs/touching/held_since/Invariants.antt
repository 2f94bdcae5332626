use Rattle.std.proofs.Common.{◌≡◌, None, drop}
use Rattle.lin_explain.specs.Touching.{held_after}
use Rattle.lin_explain.proofs.touching.held_since.Given as goal

abbrev pub invariant-loop-number : goal.invariant-loop-number
invariant-loop-number l = held_after l.calls l.held (drop l.number-index l.run) ≡ held_after l.calls None l.run
