-- What contracts see of the objects and the calls that the program keeps.
use Rattle.std.specs.Prelude.{◌≡◌, ℕ, ◌≤◌, Some, List, map, take, filter, length, slice_get, String, string_bytes}
use Rattle.std.specs.declared.alloc.Global.{Global}
use Rattle.lin_object.specs.declared.op.Op.{Op}
use Rattle.lin_object.specs.declared.reply.Reply.{Reply}
use Rattle.lin_history.specs.declared.limits.TheConstants.{MAX_CALLS_ON_OBJECT}
use Rattle.lin_history.specs.declared.recorder.history.CallInfo.{CallInfo}
use Rattle.lin_history.specs.declared.recorder.history.Mark.TheVariants.{Unmarked}
use Rattle.lin_history.specs.declared.recorder.history.Declaration.{Declaration}
use Rattle.lin_history.specs.Recorder.Events.{Call}
use Rattle.lin_history.specs.Recorder.RecordedHistory.{DeclaredObject, is_on}

-- A declared object, as an entry of the map by name holds it.
abbrev pub object_view : String Global × Declaration → DeclaredObject
object_view e = record { name = string_bytes e.0; kind = e.1.kind; start = e.1.start }

-- A call of a history; its number among the calls on its object follows from the others.
abbrev pub call_view : CallInfo → Call Op Reply
call_view c = record { process = c.process; object = c.object; op = c.op; called = c.called; returned = c.returned }

-- How many of the calls are on the object.
abbrev pub count_on : ℕ → List (Call Op Reply) → ℕ
count_on object calls = length (filter (is_on object) calls)

-- No object has more calls than are allowed on one.
abbrev pub AreWithinLimit : List (Call Op Reply) → Type 0
AreWithinLimit calls = (object : ℕ) → count_on object calls ≤ MAX_CALLS_ON_OBJECT

-- Each call is as a finished history keeps it: its number is how many calls before it are on its object, and it has no mark.
abbrev pub AreFinished : List CallInfo → Type 0
AreFinished calls = (i : ℕ) (c : CallInfo) → slice_get calls i ≡ Some c → (c.number ≡ count_on c.object (map call_view (take i calls))) × (c.mark ≡ Unmarked)
