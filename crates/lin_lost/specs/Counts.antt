-- How many calls of a queue or a stack put an item in, and how many returned with it (this project's own).
use Rattle.std.specs.Prelude.{ℕ, ℤ, Bool, true, false, Option, Some, None, List, [], ◌∷◌}
use Rattle.std.specs.Option.{unwrap_or}
use Rattle.std.specs.Ordering.{int_eq}
use Rattle.lin_object.specs.declared.op.Op.{Op}
use Rattle.lin_object.specs.declared.op.Op.TheVariants.{Enqueue, Dequeue, Push, Pop}
use Rattle.lin_object.specs.declared.reply.Reply.{Reply}
use Rattle.lin_object.specs.declared.reply.Reply.TheVariants.{Int}
use Rattle.lin_history.specs.declared.problems.problem.ProblemCall.{ProblemCall}
use Rattle.lin_laws.specs.Counting.{counted}

-- The item that an operation puts in.
abbrev pub item_put : Op → Option ℤ
item_put (Enqueue v) = Some v
item_put (Push v) = Some v
item_put op = None

-- The item that a call returned with.
abbrev pub item_given : Op → Option (ℕ × Reply) → Option ℤ
item_given Dequeue (Some (number, Int v)) = Some v
item_given Pop (Some (number, Int v)) = Some v
item_given op returned = None

-- There is an item, and it is this one.
abbrev pub is_of : Option ℤ → ℤ → Bool
is_of None v = false
is_of (Some w) v = int_eq w v

-- How many of the calls have the item.
abbrev pub how_often : (ProblemCall Op Reply → Option ℤ) → List (ProblemCall Op Reply) → ℤ → ℕ
how_often item [] v = 0
how_often item (x ∷ xs) v = counted (is_of (item x) v) (how_often item xs v)

-- How many of the calls put the item in, and how many returned with it.
abbrev pub puts_of : List (ProblemCall Op Reply) → ℤ → ℕ
puts_of calls v = how_often (λ x. item_put x.op) calls v

abbrev pub takes_of : List (ProblemCall Op Reply) → ℤ → ℕ
takes_of calls v = how_often (λ x. item_given x.op x.returned) calls v

-- How many calls a map has of an item.
abbrev pub count_in : (ℤ → Option ℕ) → ℤ → ℕ
count_in counts v = unwrap_or (counts v) 0
