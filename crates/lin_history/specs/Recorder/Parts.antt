-- The part of a history on one object.
use Rattle.std.specs.Prelude.{ℕ, List, map}
use Rattle.lin_object.specs.declared.op.Op.{Op}
use Rattle.lin_object.specs.declared.reply.Reply.{Reply}
use Rattle.lin_object.specs.declared.state.ObjState.{ObjState}
use Rattle.lin_object.specs.Kinds.{state_at_start}
use Rattle.lin_history.specs.declared.problems.problem.ProblemCall.{ProblemCall}
use Rattle.lin_history.specs.Recorder.Events.{Call}
use Rattle.lin_history.specs.Recorder.RecordedHistory.{DeclaredObject, RecordedHistory, calls_on}

-- The state in which a declared object starts.
abbrev pub start_of : DeclaredObject → ObjState
start_of o = state_at_start o.kind o.start

-- A call of the history, as a call of its object's problem.
abbrev pub problem_call : {Op Reply : Type 0} → Call Op Reply → ProblemCall Op Reply
problem_call c = record { process = c.process; op = c.op; called = c.called; returned = c.returned }

-- The calls on an object, with their event numbers in the whole.
abbrev pub part_calls : RecordedHistory → ℕ → List (ProblemCall Op Reply)
part_calls h object = map problem_call (calls_on h object)
