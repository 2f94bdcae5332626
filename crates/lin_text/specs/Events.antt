-- What the lines of a text tell: its format, the objects that they declare and the events of processes on them, each in
-- order. The history of a text is the history of these events (Herlihy and Wing 1990).
use Rattle.std.specs.Prelude.{◌≡◌, ℕ, List, [], ◌∷◌, ◌++◌, position, bytes_eq, Option, Some, None}
use Rattle.lin_object.specs.declared.op.Op.{Op}
use Rattle.lin_object.specs.declared.reply.Reply.{Reply}
use Rattle.lin_history.specs.Recorder.Events.{Event, numbered, made_from}
use Rattle.lin_history.specs.Recorder.Events as events
use Rattle.lin_history.specs.Recorder.RecordedHistory.{DeclaredObject, RecordedHistory, IsHistoryOf}
use Rattle.lin_history.specs.Recorder.Recording.{Recording, IsRecordingOf}
use Rattle.lin_text.specs.declared.line.Format.{Format}
use Rattle.lin_text.specs.declared.line.Format.TheVariants.{Unstated, One, Two}
use Rattle.lin_text.specs.Line.{LineEvent, states, declares, calls, returns_, fails, ends}

-- The format of the text as far as lines have told it, the objects that they declare, and the events of processes that
-- they tell.
pub record TextEvents : Type 0 where
  pub format : Format
  pub objects : List DeclaredObject
  pub events : List (Event Op Reply)

-- No line gives anything.
abbrev pub nothing_told : TextEvents
nothing_told = record { format = Unstated; objects = []; events = [] }

-- The index of the declared object of this name.
abbrev pub index_told : List DeclaredObject → List ℕ → Option ℕ
index_told objects name = position (λ o. bytes_eq name o.name) objects

-- The event on the object of this index, if it is declared.
abbrev pub event_on : (ℕ → Event Op Reply) → Option ℕ → List (Event Op Reply)
event_on event None = []
event_on event (Some object) = event object ∷ []

-- The format where a line was no header: the first one, unless a header stood before it.
abbrev pub format_with : Format → Format
format_with Unstated = One
format_with One = One
format_with Two = Two

-- The format with one line more.
abbrev pub format_after : Format → LineEvent → Format
format_after format states = Two
format_after format (declares name kind start) = format_with format
format_after format (calls process name op) = format_with format
format_after format (returns_ process name reply) = format_with format
format_after format (fails process name) = format_with format
format_after format (ends process name) = format_with format

-- The objects that are declared with one line more.
abbrev pub objects_with : List DeclaredObject → LineEvent → List DeclaredObject
objects_with objects states = objects
objects_with objects (declares name kind start) = objects ++ (record { name = name; kind = kind; start = start }) ∷ []
objects_with objects (calls process name op) = objects
objects_with objects (returns_ process name reply) = objects
objects_with objects (fails process name) = objects
objects_with objects (ends process name) = objects

-- The events of processes that one line gives, after these objects were declared.
abbrev pub events_by : List DeclaredObject → LineEvent → List (Event Op Reply)
events_by objects states = []
events_by objects (declares name kind start) = []
events_by objects (calls process name op) = event_on (λ object. events.calls process object op) (index_told objects name)
events_by objects (returns_ process name reply) = event_on (λ object. events.returns_ process object reply) (index_told objects name)
events_by objects (fails process name) = event_on (λ object. events.fails process object) (index_told objects name)
events_by objects (ends process name) = event_on (λ object. events.ends process object) (index_told objects name)

-- What is told with one line more.
abbrev pub told_with : TextEvents → LineEvent → TextEvents
told_with told event = record { format = format_after told.format event; objects = objects_with told.objects event; events = told.events ++ events_by told.objects event }

-- What is given with a line that gives this event, or none.
abbrev pub told_after : TextEvents → Option LineEvent → TextEvents
told_after told None = told
told_after told (Some event) = told_with told event

-- The declared objects, and the calls that the events make.
abbrev pub recording_of : TextEvents → Recording
recording_of told = record { objects = told.objects; made = made_from 1 told.events; events = numbered told.events }

-- This is the format that is told, and the recording is of the events that are told, which are well-formed, on the objects
-- that are declared.
pub record IsTold (told : TextEvents) (format : Format) (r : Recording) : Type 0 where
  pub format_is : told.format ≡ format
  pub objects : r.objects ≡ told.objects
  pub events : IsRecordingOf told.events r

-- It is the history of the events that are told, which are well-formed, on the objects that are declared.
pub record IsHistoryTold (told : TextEvents) (h : RecordedHistory) : Type 0 where
  pub objects : h.objects ≡ told.objects
  pub events : IsHistoryOf told.events h
