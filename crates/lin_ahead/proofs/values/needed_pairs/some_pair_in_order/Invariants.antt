use Rattle.std.proofs.Common.{◌≡◌, drop}
use Rattle.lin_ahead.specs.Values.NeededPairs.{some_pair}
use Rattle.lin_ahead.proofs.values.PairLemmas.{found_from}
use Rattle.lin_ahead.proofs.values.needed_pairs.some_pair_in_order.Given as goal

-- what the calls that are left tell from here on is what all tell
abbrev pub invariant-loop-next : goal.invariant-loop-next
invariant-loop-next l = found_from l.last (drop l.next-index l.numbers) ≡ some_pair l.numbers
