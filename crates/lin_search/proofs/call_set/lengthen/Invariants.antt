-- The words are as they were, with 0 after them, up to the index.
use Rattle.std.proofs.Common.{◌≡◌, ℕ, ◌+◌, ◌-◌, ◌≤◌, max, length, get_or}
use Rattle.lin_search.proofs.call_set.lengthen.Given as goal

abbrev pub invariant-loop-words : goal.invariant-loop-words
invariant-loop-words l = record {
  longer : length l.fn.words.items ≤ length l.words.items;
  bounded : length l.words.items ≤ max (length l.fn.words.items) (l.index + 1);
  same : (i : ℕ) → get_or l.words.items i 0 ≡ get_or l.fn.words.items i 0;
  room : l.index + 1 ≤ l.words.capacity;
}

abbrev pub decreases-loop-words : goal.decreases-loop-words
decreases-loop-words l = l.index + 1 - length l.words.items
