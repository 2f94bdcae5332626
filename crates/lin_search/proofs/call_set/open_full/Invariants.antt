-- The words are the same, and there is room for those that are still to come.
use Rattle.std.proofs.Common.{◌≡◌, ℕ, ◌+◌, ◌-◌, ◌≤◌, length}
use Rattle.lin_search.specs.Window.{word_at}
use Rattle.lin_search.proofs.call_set.open_full.Given as goal

abbrev pub invariant-loop-full : goal.invariant-loop-full
invariant-loop-full l = record {
  same : (i : ℕ) → word_at l.full l.words.items i ≡ word_at l.fn.full l.fn.words.items i;
  bound : l.full ≤ l.fn.full;
  room : length l.words.items + (l.full - l.index) ≤ l.words.capacity;
  opened : l.index ≤ l.fn.full → l.index ≤ l.full;
  kept : l.fn.full ≤ l.index → (l.full ≡ l.fn.full) × (l.words.items ≡ l.fn.words.items);
}

abbrev pub decreases-loop-full : goal.decreases-loop-full
decreases-loop-full l = l.full
