use Rattle.std.proofs.Common.{◌≡◌, ◌++◌, drop}
use Rattle.lin_ahead.specs.Values.NeededPairs.{with_needs}
use Rattle.lin_ahead.proofs.values.needed_pairs.with_needs.Given as goal

-- those so far, and those of the calls that are left
abbrev pub invariant-loop-one : goal.invariant-loop-one
invariant-loop-one l = l.left.items ++ with_needs (drop l.one-index l.numbers) ≡ with_needs l.numbers
