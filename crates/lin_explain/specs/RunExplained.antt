-- Why a run of an object of a history ends, as lines (this project's own).
use Rattle.std.specs.Prelude.{◌≡◌, ℕ, List, [], map, slice_get}
use Rattle.std.specs.Option.{option_map_or}
use Rattle.lin_object.specs.declared.reply.Reply.{Reply}
use Rattle.lin_object.specs.declared.state.ObjState.{ObjState}
use Rattle.lin_history.specs.declared.locality.placed.Placed.{Placed}
use Rattle.lin_history.specs.Problems.LegalLists.{Legal}
use Rattle.lin_history.specs.Recorder.RecordedHistory.{RecordedHistory}
use Rattle.lin_history.specs.Recorder.Parts.{part_calls}
use Rattle.lin_history.specs.Locality.RecordedWhole.{start_at, part_of}
use Rattle.lin_explain.specs.Explanation.{AreNextCalls, next_in}
use Rattle.lin_explain.specs.ExplanationText.{explanation_text}
use Rattle.lin_explain.specs.RunReplies.{number_in, replies_of}

-- The name of the object of this index.
abbrev pub object_name : RecordedHistory → ℕ → List ℕ
object_name h object = option_map_or (λ o. o.name) (slice_get h.objects object) []

-- The numbers of the run's calls among those on their object.
abbrev pub numbers_of : RecordedHistory → List (Placed Reply) → List ℕ
numbers_of h run = map (number_in h) run

-- These bytes say why this run of the object's calls ends, where the events of the history are on these lines: the state after
-- the run, and the calls that could come next, each with what it would answer there.
pub record IsExplainedBy (h : RecordedHistory) (object : ℕ) (run : List (Placed Reply)) (lines bytes : List ℕ) : Type 0 where
  pub state : ObjState
  pub after : Legal (part_of h object) (start_at h object) (numbers_of h run) state
  pub calls : List ℕ
  pub next : AreNextCalls (part_of h object) (numbers_of h run) calls
  pub are : bytes ≡ explanation_text (object_name h object) (part_calls h object) (replies_of h (part_calls h object) run) (numbers_of h run) lines state (map (next_in (part_of h object) state) calls)
