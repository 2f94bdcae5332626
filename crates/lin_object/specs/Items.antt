-- Items in an order: the states of queues, stacks and sets (this project's own).
use Rattle.std.specs.Prelude.{ℤ, Bool, not, List, [], ◌∷◌, insert, filter, int_lt}
use Rattle.std.specs.List.{list_any, position_or_len}
use Rattle.std.specs.Ordering.{int_eq}
use Rattle.lin_object.specs.declared.reply.Reply.{Reply}
use Rattle.lin_object.specs.declared.reply.Reply.TheVariants.{Int, Empty}

-- What taking the first item out replies.
abbrev pub reply_to_first : List ℤ → Reply
reply_to_first [] = Empty
reply_to_first (v ∷ items) = Int v

-- The item is one of them.
abbrev pub is_in : ℤ → List ℤ → Bool
is_in item items = list_any (λ x. int_eq x item) items

-- With the item in front of the first that is greater.
abbrev pub with_in_order : ℤ → List ℤ → List ℤ
with_in_order item items = insert items (position_or_len (λ x. int_lt item x) items) item

-- Without the item.
abbrev pub without_item : ℤ → List ℤ → List ℤ
without_item item items = filter (λ x. not (int_eq x item)) items
