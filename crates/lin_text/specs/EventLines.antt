-- On which lines of a text its events stand (this project's own).
use Rattle.std.specs.Prelude.{◌≡◌, ℕ, ◌+◌, Bool, true, false, Some, List, [], ◌∷◌, ◌++◌, length, slice_get, if◌then◌else◌}
use Rattle.lin_history.specs.Recorder.Events.{numbered}
use Rattle.lin_text.specs.Events.{TextEvents}
use Rattle.lin_text.specs.Line.{LineEvent, states, declares, calls, returns_, fails, ends}
use Rattle.lin_text.specs.Text.{IsReached, IsToldBy}

-- The line of this number, counted from 1 with blank lines, gives the call or return event of this number: what is given before
-- it has one such event less than what is told with it.
pub record IsLineOfEvent (text : List ℕ) (event number : ℕ) : Type 0 where
  pub line : List ℕ
  pub told : TextEvents
  pub more : TextEvents
  pub reached : IsReached text number line told
  pub tells : IsToldBy told line more
  pub before : numbered told.events + 1 ≡ event
  pub with_it : numbered more.events ≡ event

-- The numbers of the lines of the first n call and return events, in the order of the events.
pub record AreEventLines (text : List ℕ) (n : ℕ) (numbers : List ℕ) : Type 0 where
  pub count : length numbers ≡ n
  pub each : (i number : ℕ) → slice_get numbers i ≡ Some number → IsLineOfEvent text (i + 1) number

-- ---- for the loop over the lines

-- The event has a number: it is a call or a return.
abbrev pub has_number : LineEvent → Bool
has_number states = false
has_number (declares name kind start) = false
has_number (calls process name op) = true
has_number (returns_ process name reply) = true
has_number (fails process name) = false
has_number (ends process name) = false

-- How many events have a number with a line whose event has one or not.
abbrev pub count_with : ℕ → Bool → ℕ
count_with n more = if more then n + 1 else n

-- The numbers of lines, with this one where it is wanted.
abbrev pub lines_with : List ℕ → Bool → ℕ → List ℕ
lines_with numbers wanted number = if wanted then numbers ++ number ∷ [] else numbers
