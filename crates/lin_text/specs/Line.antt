-- What one line of a history's text means: the event, or the first cause that holds.
use Rattle.std.specs.Prelude.{◌≡◌, ℕ, ◌&&◌, ℤ, Bool, true, false, not, List, [], ◌∷◌, Option, Some, None, is_none, option_map, option_and_then, Result, Ok, Err, if◌then◌else◌}
use Rattle.std.specs.Str.{is_utf8}
use Rattle.serde_json.specs.Data.{Data}
use Rattle.serde_json.specs.Read.{read}
use Rattle.serde_json.specs.Find.{as_object}
use Rattle.lin_object.specs.declared.kind.Kind.{Kind}
use Rattle.lin_object.specs.declared.op.Op.{Op}
use Rattle.lin_object.specs.declared.reply.Reply.{Reply}
use Rattle.lin_history.specs.Refusals.{first_that_holds}
use Rattle.lin_history.specs.Recorder.Recording.{Recording}
use Rattle.lin_history.specs.Recorder.Found.{IsFound}
use Rattle.lin_text.specs.declared.line.EventKind.{EventKind}
use Rattle.lin_text.specs.declared.line.EventKind.TheVariants.{Header, Declaration, Call, Return, Fail, Info}
use Rattle.lin_text.specs.declared.line.Format.{Format}
use Rattle.lin_text.specs.declared.line.Line.{Line}
use Rattle.lin_text.specs.declared.line.Line.TheVariants as lines
use Rattle.lin_text.specs.declared.cause.Cause.{Cause}
use Rattle.lin_text.specs.declared.cause.Cause.TheVariants.{NotJson, NotObject, BadFormat, BadEvent, BadProcess, BadObject, UnknownObject, BadKind, BadStart, BadResult}
use Rattle.lin_text.specs.declared.cause.Cause.TheVariants as causes
use Rattle.lin_text.specs.Fields.{event_kind_in, states_two, process_in, name_in, kind_in, start_in, declared_kind, maker_in, op_in, reply_in}

-- What a line says: that the text has the second format, or an event: a declaration, a call, a return, a failure or the
-- end of a process, with the name of its object.
pub data LineEvent : Type 0 where
  states : LineEvent
  declares : List ℕ → Kind → ℤ → LineEvent
  calls : ℕ → List ℕ → Op → LineEvent
  returns_ : ℕ → List ℕ → Reply → LineEvent
  fails : ℕ → List ℕ → LineEvent
  ends : ℕ → List ℕ → LineEvent

-- ---- the causes, in order

-- The line's JSON value: none where it is no JSON, is not UTF-8 or nests too deep.
unfoldable pub json : List ℕ → Option Data
json bytes = if is_utf8 bytes then read bytes else None

-- It is this kind of event.
abbrev pub is_kind : EventKind → Option EventKind → Bool
is_kind Header (Some Header) = true
is_kind Declaration (Some Declaration) = true
is_kind Call (Some Call) = true
is_kind Return (Some Return) = true
is_kind Fail (Some Fail) = true
is_kind Info (Some Info) = true
is_kind _ _ = false

-- It is an event of a process.
abbrev pub is_of_process : Option EventKind → Bool
is_of_process None = false
is_of_process (Some Header) = false
is_of_process (Some Declaration) = false
is_of_process (Some Call) = true
is_of_process (Some Return) = true
is_of_process (Some Fail) = true
is_of_process (Some Info) = true

-- The causes of a JSON value that is this kind of event, in order, each with whether it holds. `known` gives the kind of
-- each object that is declared before.
abbrev pub conditions_as : Option EventKind → (List ℕ → Option Kind) → Data → List (Bool × Cause)
conditions_as kind known d =
    (is_none (as_object d), NotObject)
    ∷ (is_kind Header kind && not (states_two d), BadFormat)
    ∷ (is_none kind, BadEvent)
    ∷ (is_of_process kind && is_none (process_in d), BadProcess)
    ∷ (not (is_kind Header kind) && is_none (name_in d), BadObject)
    ∷ (is_of_process kind && is_none (declared_kind known d), UnknownObject)
    ∷ (is_kind Declaration kind && is_none (kind_in d), BadKind)
    ∷ (is_kind Declaration kind && is_none (start_in d), BadStart)
    ∷ (is_kind Call kind && is_none (maker_in known d), causes.BadOp)
    ∷ (is_kind Call kind && is_none (op_in known d), causes.BadArgs)
    ∷ (is_kind Return kind && is_none (reply_in d), BadResult)
    ∷ []

-- The causes of the object that an event of a process names, in order: its name, and that the object is declared.
abbrev pub object_conditions : (List ℕ → Option Kind) → Data → List (Bool × Cause)
object_conditions known d = (is_none (name_in d), BadObject) ∷ (is_none (declared_kind known d), UnknownObject) ∷ []

-- The causes of what an event of a process names, in order: its process, and its object.
abbrev pub naming_conditions : (List ℕ → Option Kind) → Data → List (Bool × Cause)
naming_conditions known d = (is_none (process_in d), BadProcess) ∷ object_conditions known d

-- The causes of a line that is this JSON value, in a text of this format.
abbrev pub conditions_in : Format → (List ℕ → Option Kind) → Data → List (Bool × Cause)
conditions_in format known d = conditions_as (event_kind_in format d) known d

-- The causes of a line that has this JSON value, if it has one.
abbrev pub conditions_at : Format → (List ℕ → Option Kind) → Option Data → List (Bool × Cause)
conditions_at format known None = []
conditions_at format known (Some d) = conditions_in format known d

-- The causes of a line, in order: first that it is no JSON, then those of its value.
abbrev pub conditions : Format → (List ℕ → Option Kind) → List ℕ → List (Bool × Cause)
conditions format known bytes = (is_none (json bytes), NotJson) ∷ conditions_at format known (json bytes)

-- ---- the event

-- What is made of two parts, where both are there.
abbrev pub made : {A B C : Type 0} → (A → B → C) → Option A → Option B → Option C
made f a b = option_and_then (λ x. option_map (f x) b) a

-- The event of a line of this kind: its parts, where all of them are there.
abbrev pub event_as : (List ℕ → Option Kind) → Data → EventKind → Option LineEvent
event_as known d Header = Some states
event_as known d Declaration = option_and_then (λ name. made (declares name) (kind_in d) (start_in d)) (name_in d)
event_as known d Call = option_and_then (λ process. made (calls process) (name_in d) (op_in known d)) (process_in d)
event_as known d Return = option_and_then (λ process. made (returns_ process) (name_in d) (reply_in d)) (process_in d)
event_as known d Fail = option_and_then (λ process. option_map (fails process) (name_in d)) (process_in d)
event_as known d Info = option_and_then (λ process. option_map (ends process) (name_in d)) (process_in d)

-- The event of a line in a text of this format, where its kind and all its parts are there.
abbrev pub event_in : Format → (List ℕ → Option Kind) → Data → Option LineEvent
event_in format known d = option_and_then (event_as known d) (event_kind_in format d)

-- The value is this event, and no cause holds.
pub record IsLineEventIn (format : Format) (known : List ℕ → Option Kind) (d : Data) (event : LineEvent) : Type 0 where
  pub sound : first_that_holds (conditions_in format known d) ≡ None
  pub read_as : event_in format known d ≡ Some event

-- The event, as the code has read it.
abbrev pub seen : Line → LineEvent
seen lines.Header = states
seen (lines.Declare name kind start) = declares name.now kind start
seen (lines.Call process found op) = calls process found.name.now op
seen (lines.Return process found reply) = returns_ process found.name.now reply
seen (lines.Fail process found) = fails process found.name.now
seen (lines.Info process found) = ends process found.name.now

-- The object of the line, where it is an event of a process, was found in the recording.
abbrev pub IsFoundIn : Recording → Line → Type 0
IsFoundIn r lines.Header = Unit {0}
IsFoundIn r (lines.Declare name kind start) = Unit {0}
IsFoundIn r (lines.Call process found op) = IsFound r found
IsFoundIn r (lines.Return process found reply) = IsFound r found
IsFoundIn r (lines.Fail process found) = IsFound r found
IsFoundIn r (lines.Info process found) = IsFound r found

-- The cause is the first that holds of the value, unless memory ran out.
abbrev pub Fails : Format → (List ℕ → Option Kind) → Data → Cause → Type 0
Fails format known d cause = (cause ≡ causes.OutOfMemory → ⊥) → first_that_holds (conditions_in format known d) ≡ Some cause

-- What the code answers of a value: its event, or the first cause.
abbrev pub Tells : Format → (List ℕ → Option Kind) → Data → Result Line Cause → Type 0
Tells format known d (Ok line) = IsLineEventIn format known d (seen line)
Tells format known d (Err cause) = Fails format known d cause
