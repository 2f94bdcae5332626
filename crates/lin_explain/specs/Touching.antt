-- The calls that put or took the value that a call asks for, and the call since which a mutex is held (this project's own).
use Rattle.std.specs.Prelude.{ℕ, ◌+◌, ◌==◌, ℤ, ◌&&◌, Bool, true, false, Option, Some, None, unwrap_or, List, [], ◌∷◌, slice_get, if◌then◌else◌}
use Rattle.std.specs.Option.{option_map, option_or}
use Rattle.std.specs.Ordering.{int_eq}
use Rattle.lin_object.specs.declared.op.Op.{Op}
use Rattle.lin_object.specs.declared.op.Op.TheVariants as ops
use Rattle.lin_object.specs.declared.reply.Reply.{Reply}
use Rattle.lin_object.specs.declared.reply.Reply.TheVariants.{Int, Flag, Empty}
use Rattle.lin_object.specs.declared.state.ObjState.{ObjState}
use Rattle.lin_object.specs.declared.state.ObjState.TheVariants.{Queue, Stack, Map}
use Rattle.lin_object.specs.Pairs.{value_at}
use Rattle.lin_history.specs.declared.problems.problem.ProblemCall.{ProblemCall}
use Rattle.lin_explain.specs.declared.touching.Asked.{Asked}
use Rattle.lin_explain.specs.declared.touching.Asked.TheVariants.{Item, Value, Member, Entry}
use Rattle.lin_explain.specs.declared.touching.Touch.{Touch}
use Rattle.lin_explain.specs.declared.touching.Touch.TheVariants.{Put, Took}
use Rattle.lin_explain.specs.declared.touching.Touching.{Touching}

-- The call did not answer that it changed nothing.
abbrev pub reply_may_change : Reply → Bool
reply_may_change (Flag false) = false
reply_may_change reply = true

abbrev pub may_change : Option Reply → Bool
may_change None = true
may_change (Some reply) = reply_may_change reply

-- What a call asks for that replied so: an item, a value of a register, the value of a key.
abbrev pub item_in : Reply → Option Asked
item_in (Int item) = Some (Item item)
item_in reply = None

abbrev pub value_in : Reply → Option Asked
value_in (Int value) = Some (Value value)
value_in reply = None

abbrev pub entry_in : ℤ → Reply → Option Asked
entry_in key (Int value) = Some (Entry key value)
entry_in key reply = None

-- What a call asks for: the item that it took, the value that it read or compared with, the member of a set, or the value that
-- a key had. None where it asks for no value.
abbrev pub asked_of : Op → Option (ℕ × Reply) → Option Asked
asked_of (ops.Cas value new) returned = Some (Value value)
asked_of (ops.Insert member) returned = Some (Member member)
asked_of (ops.Contains member) returned = Some (Member member)
asked_of (ops.Remove member) returned = Some (Member member)
asked_of ops.Dequeue (Some returned) = item_in returned.1
asked_of ops.Pop (Some returned) = item_in returned.1
asked_of ops.Read (Some returned) = value_in returned.1
asked_of (ops.Lookup key) (Some returned) = entry_in key returned.1
asked_of op returned = None

-- The reply says that nothing was there: no value, or no.
abbrev pub is_nothing : Reply → Bool
is_nothing Empty = true
is_nothing (Flag false) = true
is_nothing reply = false

abbrev pub found_nothing : Option (ℕ × Reply) → Bool
found_nothing None = false
found_nothing (Some returned) = is_nothing returned.1

-- What a call finds in this state: the item in front of a queue or on top of a stack, the value of a key. None where nothing is
-- there, and for other operations.
abbrev pub there_for : ObjState → Op → Option Asked
there_for (Queue items) ops.Dequeue = option_map Item (slice_get items 0)
there_for (Stack items) ops.Pop = option_map Item (slice_get items 0)
there_for (Map pairs) (ops.Lookup key) = option_map (Entry key) (value_at key pairs)
there_for (Map pairs) (ops.Delete key) = option_map (Entry key) (value_at key pairs)
there_for state op = None

-- What a call asks for in this state: what its operation and its reply name; where it found nothing, what it should have found.
abbrev pub asked_in : ObjState → Op → Option (ℕ × Reply) → Option Asked
asked_in state op returned = option_or (asked_of op returned) (if found_nothing returned then there_for state op else None)

-- This, where the condition holds.
abbrev pub touch_if : Bool → Touch → Option Touch
touch_if holds touch = if holds then Some touch else None

-- What a call that takes an item and replied so did with this one.
abbrev pub reply_touch : ℤ → Reply → Option Touch
reply_touch item (Int other) = touch_if (int_eq other item) Took
reply_touch item reply = None

abbrev pub item_touch : ℤ → Option Reply → Option Touch
item_touch item None = None
item_touch item (Some reply) = reply_touch item reply

-- What a call that has this reply, or none, did with what is asked for: it put it there, or took it away.
abbrev pub touch_of : Asked → Op → Option Reply → Option Touch
touch_of (Item item) (ops.Enqueue other) reply = touch_if (int_eq other item) Put
touch_of (Item item) (ops.Push other) reply = touch_if (int_eq other item) Put
touch_of (Item item) ops.Dequeue reply = item_touch item reply
touch_of (Item item) ops.Pop reply = item_touch item reply
touch_of (Value value) (ops.Write other) reply = touch_if (int_eq other value) Put
touch_of (Value value) (ops.Cas old other) reply = touch_if (int_eq other value && may_change reply) Put
touch_of (Member member) (ops.Insert other) reply = touch_if (int_eq other member && may_change reply) Put
touch_of (Member member) (ops.Remove other) reply = touch_if (int_eq other member && may_change reply) Took
touch_of (Entry key value) (ops.Put other put) reply = touch_if (int_eq other key && int_eq put value) Put
touch_of (Entry key value) (ops.Delete other) reply = touch_if (int_eq other key && may_change reply) Took
touch_of asked op reply = None

-- The reply of the call of this number, where the calls have these.
abbrev pub reply_at : List (Option Reply) → ℕ → Option Reply
reply_at replies number = unwrap_or (slice_get replies number) None

-- What the call of this number did. A call is not told of itself.
abbrev pub touch_in : Asked → ℕ → ℕ → Op → Option Reply → Option Touch
touch_in asked asker number op reply = if number == asker then None else touch_of asked op reply

-- The call of this number, where it did something, before others.
abbrev pub with_touch : ℕ → Option Touch → List Touching → List Touching
with_touch number None others = others
with_touch number (Some touch) others = (record { call = number; touch = touch }) ∷ others

-- Of these calls, of which the first has number n, those that put or took what call `asker` asks for, where the calls have these
-- replies.
abbrev pub touches_from : List (Option Reply) → Asked → ℕ → ℕ → List (ProblemCall Op Reply) → List Touching
touches_from replies asked asker n [] = []
touches_from replies asked asker n (c ∷ cs) = with_touch n (touch_in asked asker n c.op (reply_at replies n)) (touches_from replies asked asker (n + 1) cs)

-- The call since which a mutex is held after a call, where it was held since this one before.
abbrev pub held_with : Option ℕ → ℕ → Op → Option ℕ
held_with None number ops.Lock = Some number
held_with None number ops.TryLock = Some number
held_with None number op = None
held_with (Some held) number ops.Unlock = None
held_with (Some held) number op = Some held

-- The same of a number, where it is a call's.
abbrev pub held_at : Option ℕ → ℕ → Option (ProblemCall Op Reply) → Option ℕ
held_at held number None = held
held_at held number (Some call) = held_with held number call.op

-- The call since which a mutex is held after these calls: a lock, or a try to lock, of a free mutex, that no unlock follows.
abbrev pub held_after : List (ProblemCall Op Reply) → Option ℕ → List ℕ → Option ℕ
held_after calls held [] = held
held_after calls held (number ∷ run) = held_after calls (held_at held number (slice_get calls number)) run
