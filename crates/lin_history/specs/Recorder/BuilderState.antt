-- What a builder keeps beside what is recorded so far.
use Rattle.std.specs.Prelude.{◌≡◌, ℕ, ◌+◌, ◌≤◌, Bool, true, not, Option, Some, None, is_none, is_some, List, [], ◌∷◌, map, length, slice_get, filter, find}
use Rattle.lin_object.specs.declared.op.Op.{Op}
use Rattle.lin_object.specs.declared.reply.Reply.{Reply}
use Rattle.lin_history.specs.declared.limits.TheConstants.{MAX_OBJECTS, MAX_CALLS, MAX_CALLS_ON_OBJECT}
use Rattle.lin_history.specs.declared.recorder.history.CallInfo.{CallInfo}
use Rattle.lin_history.specs.declared.recorder.history.Mark.{Mark}
use Rattle.lin_history.specs.declared.recorder.history.Mark.TheVariants.{Unmarked, Failed, Ended}
use Rattle.lin_history.specs.declared.recorder.fault.BuildFault.{BuildFault}
use Rattle.lin_history.specs.declared.recorder.fault.BuildFault.TheVariants.{BadName, UnknownObject, ProcessEnded, Busy, NoCall, OtherObject}
use Rattle.lin_history.specs.Recorder.Names.{is_name}
use Rattle.lin_history.specs.Recorder.Events.{Outcome, pending, unknown, failed, replied, Made}
use Rattle.lin_history.specs.Recorder.RecordedHistory.{DeclaredObject}
use Rattle.lin_history.specs.Recorder.Recording.{Recording, IsRecording, index_named, is_pending_of, is_last_of, has_ended, is_elsewhere, count_made_on}

-- How a call went on, by its mark and its return.
abbrev pub outcome_by : Mark → Option (ℕ × Reply) → Outcome Reply
outcome_by Unmarked None = pending
outcome_by Failed None = failed
outcome_by Ended None = unknown
outcome_by mark (Some r) = replied r.0 r.1

-- A call that was made, as a builder keeps it.
abbrev pub made_view : CallInfo → Made Op Reply
made_view c = record { process = c.process; object = c.object; op = c.op; called = c.called; outcome = outcome_by c.mark c.returned }

-- The call has not returned.
abbrev pub has_no_reply : CallInfo → Bool
has_no_reply c = is_none c.returned

-- What is recorded so far, by the objects, calls and number of events that a builder keeps.
abbrev pub recorded : List DeclaredObject → List CallInfo → ℕ → Recording
recorded objects calls events = record { objects = objects; made = map made_view calls; events = events }

-- Why an event on the object of this name is refused before its process counts, in order.
abbrev pub name_refusals : Recording → List ℕ → List (Bool × BuildFault)
name_refusals r name = (not (is_name name), BadName) ∷ (is_none (index_named r name), UnknownObject) ∷ []

-- Why a process that has this as its last call may not call, in order.
abbrev pub process_refusals : Option (Made Op Reply) → ℕ → List (Bool × BuildFault)
process_refusals last process = (has_ended last, ProcessEnded process) ∷ (is_some last, Busy process) ∷ []

-- Why a process that has this as its last call has none to end on the object of this index, in order.
abbrev pub pending_refusals : Option (Made Op Reply) → ℕ → ℕ → List (Bool × BuildFault)
pending_refusals last process object = (has_ended last, ProcessEnded process) ∷ (is_none last, NoCall process) ∷ (is_elsewhere (Some object) last, OtherObject process) ∷ []

-- A call that has neither returned nor failed is the last call of its process.
abbrev pub KnowsLast : (ℕ → Option ℕ) → List CallInfo → Type 0
KnowsLast last calls = (i : ℕ) (c : CallInfo) → slice_get calls i ≡ Some c → is_last_of c.process (made_view c) ≡ true → last c.process ≡ Some i

-- Each object has as its count how many calls were made on it.
abbrev pub AreCounts : List ℕ → List CallInfo → Type 0
AreCounts counts calls = (object : ℕ) (n : ℕ) → slice_get counts object ≡ Some n → n ≡ count_made_on object (map made_view calls)

-- On no object more calls were made than are allowed on one.
abbrev pub AreMadeWithinLimit : List CallInfo → Type 0
AreMadeWithinLimit calls = (object : ℕ) → count_made_on object (map made_view calls) ≤ MAX_CALLS_ON_OBJECT

-- What each object is declared by is a name.
abbrev pub AreNamed : List DeclaredObject → Type 0
AreNamed objects = (i : ℕ) (o : DeclaredObject) → slice_get objects i ≡ Some o → is_name o.name ≡ true

-- What holds of all that a builder keeps: the last call of each process, how many calls were made on each object, and that
-- the objects are few and each has a name.
pub record IsBuilderState (objects : List DeclaredObject) (calls : List CallInfo) (events : ℕ) (last : ℕ → Option ℕ) (counts : List ℕ) : Type 0 where
  pub recording : IsRecording (recorded objects calls events)
  pub last_known : KnowsLast last calls
  pub counted : AreCounts counts calls
  pub each : length counts ≡ length objects
  pub room : length objects ≤ MAX_OBJECTS
  pub few : length calls ≤ MAX_CALLS
  pub limited : AreMadeWithinLimit calls
  -- each call has an event, and one more where it has returned
  pub events_are : events + length (filter has_no_reply calls) ≡ length calls + length calls
  pub named : AreNamed objects

-- The call of this index is the pending one of the process, on the object of this index.
pub record IsPendingOn (calls : List CallInfo) (process : ℕ) (object : ℕ) (i : ℕ) : Type 0 where
  pub call : CallInfo
  pub there : slice_get calls i ≡ Some call
  pub pends : is_pending_of process (made_view call) ≡ true
  pub on : call.object ≡ object
  pub found : find (is_last_of process) (map made_view calls) ≡ Some (made_view call)
