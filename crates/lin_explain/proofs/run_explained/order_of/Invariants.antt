use Rattle.std.proofs.Common.{◌≡◌, map, take}
use Rattle.lin_explain.specs.RunReplies.{number_in}
use Rattle.lin_explain.proofs.run_explained.order_of.Given as goal

abbrev pub invariant-loop-placed : goal.invariant-loop-placed
invariant-loop-placed l = l.numbers.items ≡ map (number_in l.history) (take l.placed-index l.run)
