-- A recorded history: the objects that it declares and its calls, as contracts see it.
use Rattle.std.specs.Prelude.{◌≡◌, ℕ, ◌<◌, ◌==◌, ℤ, Bool, Some, List, length, filter, slice_get}
use Rattle.lin_object.specs.declared.kind.Kind.{Kind}
use Rattle.lin_object.specs.declared.op.Op.{Op}
use Rattle.lin_object.specs.declared.reply.Reply.{Reply}
use Rattle.lin_history.specs.Recorder.Events.{Event, Call, IsWellFormed, numbered, calls_from}

-- An object as it was declared; start counts for the kinds that start with a number.
pub record DeclaredObject : Type 0 where
  pub name : List ℕ
  pub kind : Kind
  pub start : ℤ

-- The objects in the order of declaration, the calls in the order of their call events, and how many call and return
-- events there are.
pub record RecordedHistory : Type 0 where
  pub objects : List DeclaredObject
  pub calls : List (Call Op Reply)
  pub events : ℕ

-- This is the history of these events (Herlihy and Wing 1990): they are well-formed, the calls are those of theirs that
-- did not fail, and each is on an object that is declared.
pub record IsHistoryOf (events : List (Event Op Reply)) (h : RecordedHistory) : Type 0 where
  pub well_formed : IsWellFormed events
  pub calls_are : h.calls ≡ calls_from 1 events
  pub count : h.events ≡ numbered events
  pub declared : (i : ℕ) (c : Call Op Reply) → slice_get h.calls i ≡ Some c → c.object < length h.objects

-- It is the history of some events.
abbrev pub IsHistory : RecordedHistory → Type 0
IsHistory h = (events : List (Event Op Reply)) × IsHistoryOf events h

-- The call is on the object.
abbrev pub is_on : {Op Reply : Type 0} → ℕ → Call Op Reply → Bool
is_on object call = call.object == object

-- The calls on an object.
abbrev pub calls_on : RecordedHistory → ℕ → List (Call Op Reply)
calls_on h object = filter (is_on object) h.calls
