-- What the calls on an object replied: in a run, or else as is recorded (this project's own).
use Rattle.std.specs.Prelude.{ℕ, Option, Some, None, List, [], ◌∷◌, map, set, take, slice_get}
use Rattle.std.specs.Option.{option_map}
use Rattle.lin_object.specs.declared.op.Op.{Op}
use Rattle.lin_object.specs.declared.reply.Reply.{Reply}
use Rattle.lin_history.specs.declared.locality.placed.Placed.{Placed}
use Rattle.lin_history.specs.declared.problems.problem.ProblemCall.{ProblemCall}
use Rattle.lin_history.specs.Recorder.Events.{Call}
use Rattle.lin_history.specs.Recorder.RecordedHistory.{RecordedHistory}
use Rattle.lin_history.specs.Recorder.Views.{count_on}

-- The number of a call of this index among the calls on its object.
abbrev pub number_at : RecordedHistory → ℕ → Option (Call Op Reply) → ℕ
number_at h index None = 0
number_at h index (Some call) = count_on call.object (take index h.calls)

-- The number of a call of a run.
abbrev pub number_in : RecordedHistory → Placed Reply → ℕ
number_in h placed = number_at h placed.call (slice_get h.calls placed.call)

-- The reply that is recorded of a call; none of a pending one.
abbrev pub recorded_reply : ProblemCall Op Reply → Option Reply
recorded_reply call = option_map (λ r. r.1) call.returned

-- The replies, with those that the calls of the run have there.
abbrev pub with_run : RecordedHistory → List (Option Reply) → List (Placed Reply) → List (Option Reply)
with_run h replies [] = replies
with_run h replies (x ∷ xs) = with_run h (set replies (number_in h x) (Some x.reply)) xs

-- The reply of each of these calls: the one that it has in the run, or else the one that is recorded. So a pending call has one
-- where it is in the run.
abbrev pub replies_of : RecordedHistory → List (ProblemCall Op Reply) → List (Placed Reply) → List (Option Reply)
replies_of h calls run = with_run h (map recorded_reply calls) run
