use Rattle.std.proofs.Common.{◌≡◌, ℕ, ◌≤◌, length}
use Rattle.json.specs.Json.{items, value, parse_map}
use Rattle.serde_json.specs.Read.{of_items, converted}
use Rattle.lin_text.proofs.FlatLemmas.{items_before}
use Rattle.lin_text.proofs.flat_object.wholes_of.Given as goal

-- What was read so far goes in front of what the turns that are left will read.
abbrev pub invariant-items : goal.invariant-items
invariant-items l =
    (n : ℕ) × (length l.reader ≤ n) × (length l.reader ≤ length l.initial.reader)
    × ((depth : ℕ) → converted of_items (items (value depth) (length l.initial.reader) l.initial.reader) ≡ parse_map (items_before l.found) (converted of_items (items (value depth) n l.reader)))

abbrev pub decreases-items : goal.decreases-items
decreases-items l = length l.reader
