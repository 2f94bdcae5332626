-- Arrays of whole numbers.
use Rattle.std.specs.Prelude.{ℤ, List, [], ◌∷◌}
use Rattle.serde_json.specs.Data.{number, Items, no_items, item}
use Rattle.serde_json.specs.Find.{of_integer}

-- The items of the JSON array of these whole numbers.
abbrev pub items_of : List ℤ → Items
items_of [] = no_items
items_of (n ∷ ns) = item (number (of_integer n)) (items_of ns)
