use Rattle.std.proofs.Common.{◌≡◌, ℕ, ◌+◌, ◌-◌, ◌<◌, length, get_or}
use Rattle.lin_search.proofs.links.Links.row.Given as goal

abbrev pub invariant-loop-entry : goal.invariant-loop-entry
invariant-loop-entry l = record {
  next_count : length l.next.items ≡ l.entry;
  previous_count : length l.previous.items ≡ l.entry;
  next : (e : ℕ) → e < l.entry → get_or l.next.items e 0 ≡ e + 1;
  previous : (e : ℕ) → e < l.entry → get_or l.previous.items e 0 ≡ e - 1;
}
