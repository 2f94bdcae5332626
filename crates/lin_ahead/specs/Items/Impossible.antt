-- Replies of a queue's and a stack's calls that no order of the calls explains (this project's own).
use Rattle.std.specs.Prelude.{◌≡◌, ◌≢◌, ℕ, ℤ, Bool, true, false, Option, Some, None, List, [], ◌∷◌, ◌⊎◌, min, nat_lt, if◌then◌else◌}
use Rattle.std.specs.Option.{unwrap_or}
use Rattle.lin_object.specs.declared.op.Op.{Op}
use Rattle.lin_object.specs.declared.op.Op.TheVariants.{Enqueue, Dequeue, Push, Pop}
use Rattle.lin_object.specs.declared.reply.Reply.{Reply}
use Rattle.lin_object.specs.declared.reply.Reply.TheVariants.{Int}
use Rattle.lin_object.specs.declared.state.ObjState.{ObjState}
use Rattle.lin_object.specs.declared.state.ObjState.TheVariants.{Queue, Stack}
use Rattle.lin_history.specs.declared.problems.problem.ProblemCall.{ProblemCall}
use Rattle.lin_history.specs.Problems.Problem.{Problem}
use Rattle.lin_history.specs.Problems.Precedence.{Before}
use Rattle.lin_ahead.specs.declared.items.item_calls.Callers.{Callers}
use Rattle.lin_ahead.specs.declared.items.item_calls.Callers.TheVariants.{Nobody, One, Several}
use Rattle.lin_ahead.specs.Items.ItemCalls.{one_more, is_of}
use Rattle.lin_laws.specs.Items.{Took, Popped, AddsItem}

-- The item that an operation puts into a queue, or pushes.
abbrev pub item_added : Op → Option ℤ
item_added (Enqueue v) = Some v
item_added (Push v) = Some v
item_added op = None

-- The item that a call dequeued.
abbrev pub item_dequeued : Op → Option (ℕ × Reply) → Option ℤ
item_dequeued Dequeue (Some (number, Int v)) = Some v
item_dequeued op returned = None

-- The item that a call popped.
abbrev pub item_popped : Op → Option (ℕ × Reply) → Option ℤ
item_popped Pop (Some (number, Int v)) = Some v
item_popped op returned = None

-- The item that a call returned with, from a queue or a stack that starts empty.
abbrev pub item_out : ObjState → Op → Option (ℕ × Reply) → Option ℤ
item_out (Queue []) op returned = item_dequeued op returned
item_out (Stack []) op returned = item_popped op returned
item_out start op returned = None

-- The lesser of an event, where there is one, and another one.
abbrev pub earlier : Option ℕ → ℕ → ℕ
earlier None called = called
earlier (Some first) called = min first called

-- The event at which the first call was called that puts the item there, with a call more.
abbrev pub added_next : Option ℕ → ProblemCall Op Reply → ℤ → Option ℕ
added_next first c v = if is_of (item_added c.op) v then Some (earlier first c.called) else first

-- The same with these calls more.
abbrev pub added_from : Option ℕ → List (ProblemCall Op Reply) → ℤ → Option ℕ
added_from first [] v = first
added_from first (c ∷ cs) v = added_from (added_next first c v) cs v

-- The event at which the first of the calls was called that put the item there.
abbrev pub first_added : List (ProblemCall Op Reply) → ℤ → Option ℕ
first_added calls v = added_from None calls v

-- A call returned before that event, or there is none.
abbrev pub is_early : Option ℕ → Option (ℕ × Reply) → Bool
is_early first None = false
is_early None (Some returned) = true
is_early (Some first) (Some returned) = nat_lt returned.0 first

-- More calls than one.
abbrev pub are_several : Callers → Bool
are_several Nobody = false
are_several One = false
are_several Several = true

-- How many calls there are of the item, with one more of this item, where there is one.
abbrev pub callers_next : Callers → Option ℤ → ℤ → Callers
callers_next callers item v = if is_of item v then one_more callers else callers

-- How many of the calls have the item, with so many before them.
abbrev pub callers_from : (ProblemCall Op Reply → Option ℤ) → Callers → List (ProblemCall Op Reply) → ℤ → Callers
callers_from item callers [] v = callers
callers_from item callers (c ∷ cs) v = callers_from item (callers_next callers (item c) v) cs v

-- How many of the calls put the item there.
abbrev pub adders_of : List (ProblemCall Op Reply) → ℤ → Callers
adders_of calls v = callers_from (λ c. item_added c.op) Nobody calls v

-- How many of the calls returned with the item.
abbrev pub takers_of : ObjState → List (ProblemCall Op Reply) → ℤ → Callers
takers_of start calls v = callers_from (λ c. item_out start c.op c.returned) Nobody calls v

-- How many calls a map has of an item.
abbrev pub callers_in : (ℤ → Option Callers) → ℤ → Callers
callers_in callers v = unwrap_or (callers v) Nobody

module _ (p : Problem ObjState Op Reply) where
  -- The call returned with this item, from a queue or a stack that starts empty.
  abbrev pub TookItem : ℕ → ℤ → Type 0
  TookItem c v = ((p.start ≡ Queue []) × Took p c v) ⊎ ((p.start ≡ Stack []) × Popped p c v)

  -- The call returned with an item that no call had put there by then: each that puts it there was called after that.
  abbrev pub CameTooEarly : ℕ → Type 0
  CameTooEarly z = (v : ℤ) × TookItem z v × ((a : ℕ) → AddsItem p a v → Before p z a)

  -- Two calls returned with one item, and no two calls put it there.
  abbrev pub IsTakenTwice : Type 0
  IsTakenTwice = (v : ℤ) × (y : ℕ) × (z : ℕ) × (y ≢ z) × TookItem y v × TookItem z v × ((a b : ℕ) → AddsItem p a v → AddsItem p b v → a ≡ b)

  -- The call returned with an item of which there are several takers, but not several adders.
  abbrev pub TookAgain : (ℤ → Callers) → (ℤ → Callers) → ℕ → Type 0
  TookAgain takers adders c = (v : ℤ) × TookItem c v × (are_several (takers v) ≡ true) × (are_several (adders v) ≡ false)
