-- Entries in a row, linked both ways by index.
use Rattle.std.specs.Prelude.{◌≡◌, ℕ, ◌+◌, ◌-◌, ◌<◌, List, length, slice_index, slice_set}

-- Of each entry the next one and the previous one; an entry that is taken out keeps its own.
pub record Linked : Type 0 where
  pub next : List ℕ
  pub previous : List ℕ

-- The links without the entry: its neighbours are linked to each other.
abbrev pub without : Linked → ℕ → Linked
without l e = record {
  next = slice_set l.next (slice_index l.previous e) (slice_index l.next e);
  previous = slice_set l.previous (slice_index l.next e) (slice_index l.previous e);
}

-- The links with the entry, which was taken out: its neighbours are linked to it.
abbrev pub with_entry : Linked → ℕ → Linked
with_entry l e = record {
  next = slice_set l.next (slice_index l.previous e) e;
  previous = slice_set l.previous (slice_index l.next e) e;
}

-- The entry and its neighbours have links.
pub record HasLinks (l : Linked) (e : ℕ) : Type 0 where
  pub next : e < length l.next
  pub previous : e < length l.previous
  pub after : slice_index l.next e < length l.previous
  pub before : slice_index l.previous e < length l.next

-- So many entries in a row, from 1 on, between 0 and the number after them.
pub record IsRow (count : ℕ) (l : Linked) : Type 0 where
  pub next_count : length l.next ≡ count + 2
  pub previous_count : length l.previous ≡ count + 2
  pub next : (e : ℕ) → e < count + 2 → slice_index l.next e ≡ e + 1
  pub previous : (e : ℕ) → e < count + 2 → slice_index l.previous e ≡ e - 1
