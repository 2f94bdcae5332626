-- How an explanation shows a state (this project's own).
use Rattle.std.specs.Prelude.{ℕ, ℤ, ◌-◌, ◌++◌, nat_le, Option, Some, None, List, [], ◌∷◌, codes, length, take, if◌then◌else◌}
use Rattle.std.specs.Fmt.{decimal, signed_decimal}
use Rattle.lin_object.specs.declared.pairs.Pair.{Pair}
use Rattle.lin_object.specs.declared.state.ObjState.{ObjState}
use Rattle.lin_object.specs.declared.state.ObjState.TheVariants.{Register, Counter, Queue, Stack, Set, Mutex, Map}
use Rattle.lin_object.specs.Pairs.{value_at}
use Rattle.lin_explain.specs.declared.state_text.TheConstants.{MAX_SHOWN}

-- Items that come after others, a comma before each.
abbrev pub behind : List ℤ → List ℕ
behind [] = []
behind (v ∷ vs) = codes ", " ++ signed_decimal v ++ behind vs

-- Items with a comma between two of them.
abbrev pub joined : List ℤ → List ℕ
joined [] = []
joined (v ∷ vs) = signed_decimal v ++ behind vs

-- A key and its value.
abbrev pub pair_text : Pair → List ℕ
pair_text pair = signed_decimal pair.key ++ codes ": " ++ signed_decimal pair.value

-- Pairs that come after others, a comma before each.
abbrev pub behind_pairs : List Pair → List ℕ
behind_pairs [] = []
behind_pairs (p ∷ ps) = codes ", " ++ pair_text p ++ behind_pairs ps

-- Pairs with a comma between two of them.
abbrev pub joined_pairs : List Pair → List ℕ
joined_pairs [] = []
joined_pairs (p ∷ ps) = pair_text p ++ behind_pairs ps

-- How many of so many items are not shown, where there are any.
abbrev pub more_text : ℕ → List ℕ
more_text count = if nat_le count MAX_SHOWN then [] else codes ", .. and " ++ decimal (count - MAX_SHOWN) ++ codes " more"

-- The first items, and how many more there are.
abbrev pub listed : List ℤ → List ℕ
listed items = joined (take MAX_SHOWN items) ++ more_text (length items)

-- The first pairs, and how many more there are.
abbrev pub listed_pairs : List Pair → List ℕ
listed_pairs pairs = joined_pairs (take MAX_SHOWN pairs) ++ more_text (length pairs)

-- The pair of a key that has this value or none, before other pairs.
abbrev pub with_pair : ℤ → Option ℤ → List Pair → List Pair
with_pair key None pairs = pairs
with_pair key (Some value) pairs = (record { key = key; value = value }) ∷ pairs

-- The pairs of these keys, in the order of the keys.
abbrev pub pairs_of : List ℤ → List Pair → List Pair
pairs_of [] pairs = []
pairs_of (key ∷ keys) pairs = with_pair key (value_at key pairs) (pairs_of keys pairs)

-- Who holds a mutex, or that it is free.
abbrev pub holder_text : Option ℕ → List ℕ
holder_text None = codes "free"
holder_text (Some process) = codes "held by " ++ decimal process

-- A state; of a map the pairs of these keys alone. A queue has its oldest item first, a stack its newest.
abbrev pub state_text : List ℤ → ObjState → List ℕ
state_text keys (Register value) = signed_decimal value
state_text keys (Counter value) = signed_decimal value
state_text keys (Queue items) = codes "[" ++ listed items ++ codes "]"
state_text keys (Stack items) = codes "[" ++ listed items ++ codes "]"
state_text keys (Set items) = codes "{" ++ listed items ++ codes "}"
state_text keys (Mutex holder) = holder_text holder
state_text keys (Map pairs) = codes "{" ++ listed_pairs (pairs_of keys pairs) ++ codes "}"
