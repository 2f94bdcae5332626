-- The words taken out were full, and the rest is there.
use Rattle.std.proofs.Common.{◌≡◌, ℕ, ◌-◌, ◌^◌, ◌<◌, ◌≤◌, get_or, drop}
use Rattle.lin_search.proofs.call_set.drop_full.Given as goal

abbrev pub invariant-loop-count : goal.invariant-loop-count
invariant-loop-count l = record {
  bound : l.count ≤ l.len;
  rest : l.words.items ≡ drop l.count l.fn.words.items;
  full : (i : ℕ) → i < l.count → get_or l.fn.words.items i 0 ≡ 2 ^ 64 - 1;
}

abbrev pub decreases-loop-count : goal.decreases-loop-count
decreases-loop-count l = l.len - l.count
