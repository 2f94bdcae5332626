use Rattle.std.proofs.Common.{◌≡◌, length, drop}
use Rattle.lin_explain.proofs.NextLemmas.{AreFlags}
use Rattle.lin_explain.proofs.next_calls.run_flags.Given as goal

abbrev pub invariant-loop-number : goal.invariant-loop-number
invariant-loop-number l = record {
  count : length l.flags.items ≡ l.count;
  flags : AreFlags l.run l.flags.items (drop l.number-index l.run);
}
