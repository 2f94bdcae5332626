-- A recorded history under the tables of its kinds.
use Rattle.std.specs.Prelude.{ℕ, pos, slice_get}
use Rattle.std.specs.Option.{option_map_or}
use Rattle.lin_object.specs.declared.kind.Kind.TheVariants.{Register}
use Rattle.lin_object.specs.declared.op.Op.{Op}
use Rattle.lin_object.specs.declared.reply.Reply.{Reply}
use Rattle.lin_object.specs.declared.state.ObjState.{ObjState}
use Rattle.lin_object.specs.contracts.reply.ReplyPartialEq.TheImpl.{eq-value as reply_eq}
use Rattle.lin_object.specs.contracts.state.ObjStatePartialEq.TheImpl.{eq-value as state_eq}
use Rattle.lin_object.specs.Kinds.{after, state_at_start}
use Rattle.lin_history.specs.Recorder.RecordedHistory.{RecordedHistory}
use Rattle.lin_history.specs.Recorder.Parts.{start_of}
use Rattle.lin_history.specs.Problems.Problem.{Problem}
use Rattle.lin_history.specs.Locality.Whole.{Whole}
use Rattle.lin_history.specs.Locality.PartProblem.{part_problem}

-- The state in which the object of this index starts. (No call is on an object that is not declared.)
abbrev pub start_at : RecordedHistory → ℕ → ObjState
start_at h object = option_map_or start_of (slice_get h.objects object) (state_at_start Register (pos 0))

-- The history, with what its operations do and where its objects start.
abbrev pub whole_of : RecordedHistory → Whole ObjState Op Reply
whole_of h = record { after = after; same_reply = reply_eq.it; starts = start_at h; calls = h.calls }

-- The part on the object of this index, as a problem.
abbrev pub part_of : RecordedHistory → ℕ → Problem ObjState Op Reply
part_of h object = part_problem state_eq.it (whole_of h) object
