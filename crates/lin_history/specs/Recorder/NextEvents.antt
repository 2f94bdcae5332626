-- What one event more does to a recording (Herlihy and Wing 1990).
use Rattle.std.specs.Prelude.{List, [], ◌∷◌, ◌++◌}
use Rattle.lin_object.specs.declared.op.Op.{Op}
use Rattle.lin_object.specs.declared.reply.Reply.{Reply}
use Rattle.lin_history.specs.Recorder.Events.{Event, IsWellFormed}
use Rattle.lin_history.specs.Recorder.Recording.{Recording, IsRecordingOf}

-- The new recording has the events of the old one and this event after them.
abbrev pub Adds : Recording → Event Op Reply → Recording → Type 0
Adds old event new = (events : List (Event Op Reply)) → IsRecordingOf events old → IsRecordingOf (events ++ event ∷ []) new

-- The new recording is of the same events as the old one.
abbrev pub AddsNone : Recording → Recording → Type 0
AddsNone old new = (events : List (Event Op Reply)) → IsRecordingOf events old → IsRecordingOf events new

-- With this event after those of the recording they are not well-formed.
abbrev pub CannotFollow : Recording → Event Op Reply → Type 0
CannotFollow r event = (events : List (Event Op Reply)) → IsRecordingOf events r → IsWellFormed (events ++ event ∷ []) → ⊥
