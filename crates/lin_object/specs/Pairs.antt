-- Pairs of a key and its value, in an order: the states of maps (this project's own).
use Rattle.std.specs.Prelude.{ℕ, ℤ, not, List, [], ◌∷◌, ◌++◌, take, drop, filter, find, int_lt, Option, Some, None, if◌then◌else◌}
use Rattle.std.specs.List.{position_or_len}
use Rattle.std.specs.Option.{option_map}
use Rattle.std.specs.Ordering.{int_eq}
use Rattle.lin_object.specs.declared.pairs.Pair.{Pair}
use Rattle.lin_object.specs.declared.reply.Reply.{Reply}
use Rattle.lin_object.specs.declared.reply.Reply.TheVariants.{Int, Empty}

-- The value of the key, where one of the pairs has it.
abbrev pub value_at : ℤ → List Pair → Option ℤ
value_at key pairs = option_map (λ (pair : Pair). pair.value) (find (λ (pair : Pair). int_eq pair.key key) pairs)

-- What looking a key up replies, where it has this value or none.
abbrev pub reply_to_lookup : Option ℤ → Reply
reply_to_lookup None = Empty
reply_to_lookup (Some value) = Int value

-- How many pairs stand in front of the first whose key is not lower.
abbrev pub place_of_key : ℤ → List Pair → ℕ
place_of_key key pairs = position_or_len (λ (pair : Pair). not (int_lt pair.key key)) pairs

-- The pairs, without the first where it has the key.
abbrev pub behind_key : ℤ → List Pair → List Pair
behind_key key [] = []
behind_key key (pair ∷ pairs) = if int_eq pair.key key then pairs else pair ∷ pairs

-- With this value of the key: in place of its pair, or in front of the first greater key.
abbrev pub with_value : ℤ → ℤ → List Pair → List Pair
with_value key value pairs =
    take (place_of_key key pairs) pairs
    ++ record { key = key; value = value }
    ∷ behind_key key (drop (place_of_key key pairs) pairs)

-- Without the key.
abbrev pub without_key : ℤ → List Pair → List Pair
without_key key pairs = filter (λ (pair : Pair). not (int_eq pair.key key)) pairs
