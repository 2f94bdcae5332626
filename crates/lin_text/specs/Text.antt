-- What a text means: the history of its events, or the first line with a cause and that line's first cause.
use Rattle.std.specs.Prelude.{◌≡◌, ℕ, ◌+◌, ◌<◌, ◌≤◌, ◌==◌, ◌||◌, ◌⊎◌, Bool, false, List, [], ◌∷◌, ◌++◌, length, map, nat_lt, Option, Some, None, option_and_then, if◌then◌else◌}
use Rattle.std.specs.List.{list_all}
use Rattle.serde_json.specs.Data.{Data}
use Rattle.lin_text.specs.declared.text.TheConstants.{MAX_LINE_BYTES, MAX_INPUT_BYTES}
use Rattle.lin_text.specs.declared.cause.Cause.{Cause}
use Rattle.lin_text.specs.declared.cause.Cause.TheVariants.{LineTooLong, InputTooLong}
use Rattle.lin_history.specs.Refusals.{first_that_holds}
use Rattle.lin_history.specs.declared.recorder.fault.BuildFault.{BuildFault}
use Rattle.lin_history.specs.Recorder.RecordedHistory.{RecordedHistory}
use Rattle.lin_history.specs.Recorder.Recording.{Recording, kind_named, declaration_refusals, call_refusals, end_refusals}
use Rattle.lin_text.specs.declared.line.Format.{Format}
use Rattle.lin_text.specs.Causes.{cause_of}
use Rattle.lin_text.specs.Events.{TextEvents, nothing_told, told_after, recording_of, IsTold, IsHistoryTold}
use Rattle.lin_text.specs.Line.{LineEvent, states, declares, calls, returns_, fails, ends, json, conditions, event_in}

-- ---- lines

-- A line feed.
abbrev pub is_newline : ℕ → Bool
is_newline b = b == 10

-- The lines of a text that is split at its line feeds, where `front` comes before the text in its first line.
abbrev pub split : List ℕ → List ℕ → List (List ℕ)
split [] [] = []
split (b ∷ front) [] = (b ∷ front) ∷ []
split front (b ∷ bytes) = if is_newline b then front ∷ split [] bytes else split (front ++ b ∷ []) bytes

-- The lines of a text. The last one may lack its line feed, and an empty text has no line.
unfoldable pub lines : List ℕ → List (List ℕ)
lines text = split [] text

-- A space, a tab or a carriage return.
abbrev pub is_blank_byte : ℕ → Bool
is_blank_byte b = (b == 32) || (b == 9) || (b == 13)

-- The line has such bytes alone.
abbrev pub is_blank : List ℕ → Bool
is_blank line = list_all is_blank_byte line

-- ---- one line, after the events of the lines before it. What a line may not say is told by the text's format and by the
-- recording of those events

-- The event of a line that comes after what is recorded so far, in a text of this format.
unfoldable pub event_at : Format → Recording → List ℕ → Option LineEvent
event_at format r line = option_and_then (event_in format (kind_named r)) (json line)

-- A condition of the builder, as one of a text.
abbrev pub as_cause : Bool × BuildFault → Bool × Cause
as_cause c = (c.0, cause_of c.1)

-- Why what is recorded so far refuses the event.
abbrev pub refusals : Recording → LineEvent → List (Bool × BuildFault)
refusals r states = []
refusals r (declares name kind start) = declaration_refusals r name
refusals r (calls process name op) = call_refusals r process name
refusals r (returns_ process name reply) = end_refusals r process name
refusals r (fails process name) = end_refusals r process name
refusals r (ends process name) = end_refusals r process name

-- Why what is recorded so far refuses the event of a line, as causes of the text.
abbrev pub refusals_at : Recording → Option LineEvent → List (Bool × Cause)
refusals_at r None = []
refusals_at r (Some event) = map as_cause (refusals r event)

-- A line that is neither too long nor blank, and its JSON value.
pub record IsRead (line : List ℕ) (d : Data) : Type 0 where
  pub short : length line ≤ MAX_LINE_BYTES
  pub there : is_blank line ≡ false
  pub value : json line ≡ Some d

-- The causes that a line can have, in order, each with whether it holds.
abbrev pub causes_of : Format → Recording → List ℕ → List (Bool × Cause)
causes_of format r line =
    (nat_lt MAX_LINE_BYTES (length line), LineTooLong)
    ∷ (if is_blank line then [] else conditions format (kind_named r) line ++ refusals_at r (event_at format r line))

-- This is the first cause that holds of the line.
abbrev pub HasCause : Format → Recording → List ℕ → Cause → Type 0
HasCause format r line cause = first_that_holds (causes_of format r line) ≡ Some cause

-- After what is told before, the line has no cause, and with its event, if it is not blank, this is told.
pub record IsToldBy (told : TextEvents) (line : List ℕ) (more : TextEvents) : Type 0 where
  pub sound : first_that_holds (causes_of told.format (recording_of told) line) ≡ None
  pub after : more ≡ (if is_blank line then told else told_after told (event_at told.format (recording_of told) line))

-- ---- all lines

-- No line of these has a cause, and with their events this is told.
abbrev pub AreToldBy : TextEvents → List (List ℕ) → TextEvents → Type 0
AreToldBy told [] all = told ≡ all
AreToldBy told (line ∷ lines_after) all = (more : TextEvents) × IsToldBy told line more × AreToldBy more lines_after all

-- The text means this history: it is not too long, no line has a cause, and it is the history of the events that its
-- lines tell.
pub record MeansHistory (text : List ℕ) (h : RecordedHistory) : Type 0 where
  pub short : length text ≤ MAX_INPUT_BYTES
  pub told : TextEvents
  pub lines_tell : AreToldBy nothing_told (lines text) told
  pub history : IsHistoryTold told h

-- The text is recorded so: it is not too long, no line has a cause, and it is the recording of the events that its lines
-- tell.
pub record MeansRecording (text : List ℕ) (r : Recording) : Type 0 where
  pub short : length text ≤ MAX_INPUT_BYTES
  pub told : TextEvents
  pub lines_tell : AreToldBy nothing_told (lines text) told
  pub recording : IsTold told told.format r

-- The lines before this one, which is the number-th, have no cause, and this is what they tell.
pub record IsReached (text : List ℕ) (number : ℕ) (line : List ℕ) (told : TextEvents) : Type 0 where
  pub short : length text ≤ MAX_INPUT_BYTES
  pub before : List (List ℕ)
  pub after : List (List ℕ)
  pub place : lines text ≡ before ++ line ∷ after
  pub count : length before + 1 ≡ number
  pub lines_tell : AreToldBy nothing_told before told

-- The line of this number is the first with a cause, and this is its first cause.
abbrev pub HasFaultyLine : List ℕ → ℕ → Cause → Type 0
HasFaultyLine text number cause = (line : List ℕ) × (told : TextEvents) × IsReached text number line told × HasCause told.format (recording_of told) line cause

-- The text is too long, which is told of line 0.
abbrev pub IsTooLong : List ℕ → ℕ → Cause → Type 0
IsTooLong text number cause = (MAX_INPUT_BYTES < length text) × (number ≡ 0) × (cause ≡ InputTooLong)

-- The text means this fault.
abbrev pub MeansFault : List ℕ → ℕ → Cause → Type 0
MeansFault text number cause = IsTooLong text number cause ⊎ HasFaultyLine text number cause

-- Memory may run out at this line: it is not too long, and no line before it has a cause.
abbrev pub RanOutAt : List ℕ → ℕ → Type 0
RanOutAt text number = (line : List ℕ) × (told : TextEvents) × IsReached text number line told × (length line ≤ MAX_LINE_BYTES)
