-- Rows of calls by item, and how they grow call by call (this project's own).
use Rattle.std.specs.Prelude.{◌≡◌, ℕ, ℤ, Bool, Option, Some, List, [], ◌∷◌, ◌++◌, length, slice_get, if◌then◌else◌}
use Rattle.lin_ahead.specs.declared.queues.item_rows.ItemRow.{ItemRow}

-- The row has the call behind its others, where it concerns the item, and else is as it was.
pub record IsRowAfter (call : ℕ) (concerned : Bool) (old new : ItemRow) : Type 0 where
  pub item : new.item ≡ old.item
  pub calls : new.calls.items ≡ (if concerned then old.calls.items ++ call ∷ [] else old.calls.items)

-- So is each of the rows, by whether the call concerns its item.
pub record AreRowsAfter (call : ℕ) (concerned : ℤ → Bool) (old new : List ItemRow) : Type 0 where
  pub count : length new ≡ length old
  pub each : (i : ℕ) (a b : ItemRow) → slice_get old i ≡ Some a → slice_get new i ≡ Some b → IsRowAfter call (concerned a.item) a b

-- The place of each row is noted by its item. So no two rows have the same item.
abbrev pub ArePlaced : List ItemRow → (ℤ → Option ℕ) → Type 0
ArePlaced rows place = (i : ℕ) (row : ItemRow) → slice_get rows i ≡ Some row → place row.item ≡ Some i

-- The rows have no call yet.
abbrev pub AreEmpty : List ItemRow → Type 0
AreEmpty rows = (i : ℕ) (row : ItemRow) → slice_get rows i ≡ Some row → row.calls.items ≡ []
