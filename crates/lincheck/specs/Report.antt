-- What a report shows (this project's own).
use Rattle.std.specs.Prelude.{ℕ, ◌+◌, ◌-◌, ◌==◌, ◌++◌, nat_le, Bool, true, false, Option, Some, None, List, [], ◌∷◌, codes, length, drop, slice_get, if◌then◌else◌}
use Rattle.std.specs.List.{list_any}
use Rattle.std.specs.Option.{option_map_or}
use Rattle.std.specs.Fmt.{decimal}
use Rattle.lin_object.specs.declared.op.Op.{Op}
use Rattle.lin_object.specs.declared.reply.Reply.{Reply}
use Rattle.lin_object.specs.PrintedForms.{op_text, reply_text}
use Rattle.lin_history.specs.declared.locality.placed.Placed.{Placed}
use Rattle.lin_history.specs.Recorder.Events.{Call}
use Rattle.lin_history.specs.Recorder.RecordedHistory.{RecordedHistory, calls_on}
use Rattle.lincheck.specs.declared.lines.TheConstants.{MAX_LISTED}

-- The name of the object of this index.
abbrev pub name_of : RecordedHistory → ℕ → List ℕ
name_of h object = option_map_or (λ o. o.name) (slice_get h.objects object) []

-- A call: its process, its object and its operation.
abbrev pub call_text : RecordedHistory → Call Op Reply → List ℕ
call_text h c = decimal c.process ++ codes " " ++ name_of h c.object ++ codes " " ++ op_text c.op

-- What says that a call is pending in the history.
abbrev pub mark_of : Option (ℕ × Reply) → List ℕ
mark_of None = codes " completed"
mark_of (Some r) = []

-- The line of a call in an order: its place there, counted from 1, the call and its reply.
abbrev pub call_line : RecordedHistory → ℕ → Reply → Option (Call Op Reply) → List ℕ
call_line h k reply None = []
call_line h k reply (Some c) = decimal k ++ codes " " ++ call_text h c ++ codes " = " ++ reply_text reply ++ mark_of c.returned ++ codes "\n"

-- The lines of these calls, of which the first has the place k.
abbrev pub call_lines : RecordedHistory → ℕ → List (Placed Reply) → List ℕ
call_lines h k [] = []
call_lines h k (x ∷ xs) = call_line h k x.reply (slice_get h.calls x.call) ++ call_lines h (k + 1) xs

-- The line of a call that is not in the order.
abbrev pub dropped_line : RecordedHistory → Call Op Reply → List ℕ
dropped_line h c = codes "dropped " ++ call_text h c ++ codes "\n"

-- The call of this index is in the order.
abbrev pub is_placed : List (Placed Reply) → ℕ → Bool
is_placed l a = list_any (λ x. x.call == a) l

-- The lines of the calls that are not in the order, of which the first has index n.
abbrev pub dropped_lines : RecordedHistory → List (Placed Reply) → ℕ → List (Call Op Reply) → List ℕ
dropped_lines h l n [] = []
dropped_lines h l n (c ∷ cs) = (if is_placed l n then [] else dropped_line h c) ++ dropped_lines h l (n + 1) cs

-- The report of a history with this linearization.
abbrev pub yes_report : RecordedHistory → List (Placed Reply) → List ℕ
yes_report h l = codes "linearizable\n" ++ call_lines h 1 l ++ dropped_lines h l 0 h.calls

-- The line that names an object without a linearization.
abbrev pub name_line : RecordedHistory → ℕ → List ℕ
name_line h object = codes "not linearizable: " ++ name_of h object ++ codes "\n"

-- The report of a history whose object of this index is not decided.
abbrev pub undecided_report : RecordedHistory → ℕ → List ℕ
undecided_report h object = codes "undecided: " ++ name_of h object ++ codes "\n"

-- The line that gives the length of a run, and how many calls its object has.
abbrev pub length_line : RecordedHistory → ℕ → List (Placed Reply) → List ℕ
length_line h object run = codes "longest run: " ++ decimal (length run) ++ codes " of " ++ decimal (length (calls_on h object)) ++ codes " calls\n"

-- The report of a history whose object of this index has no linearization, and this longest run.
abbrev pub no_report : RecordedHistory → ℕ → List (Placed Reply) → List ℕ
no_report h object run = name_line h object ++ length_line h object run ++ call_lines h 1 run

-- One call, and more.
abbrev pub call_word : ℕ → List ℕ
call_word count = if count == 1 then codes "call" else codes "calls"

-- How many of so many calls come before the last ones, where there are any.
abbrev pub before_line : ℕ → List ℕ
before_line count = if nat_le count MAX_LISTED then [] else codes ".. " ++ decimal (count - MAX_LISTED) ++ codes " " ++ call_word (count - MAX_LISTED) ++ codes " before\n"

-- The lines of the last calls of a run, each with its place there, and above them how many come before them.
abbrev pub last_lines : RecordedHistory → List (Placed Reply) → List ℕ
last_lines h run = before_line (length run) ++ call_lines h ((length run - MAX_LISTED) + 1) (drop (length run - MAX_LISTED) run)

-- The line that says that the longest run was not found in time.
abbrev pub not_found_line : List ℕ
not_found_line = codes "longest run: not found in time\n"

-- The report of a history whose object of this index has no linearization, and whose longest run was not found in time.
abbrev pub no_report_in_time : RecordedHistory → ℕ → List ℕ
no_report_in_time h object = name_line h object ++ not_found_line

-- The line that says how many configurations were stored.
abbrev pub stored_line : Option ℕ → List ℕ
stored_line (Some stored) = codes "stored " ++ decimal stored ++ codes "\n"
stored_line None = codes "stored unknown\n"

-- The report, with the line of statistics after it where they are asked for.
abbrev pub with_stats : Bool → Option ℕ → List ℕ → List ℕ
with_stats false stored report = report
with_stats true stored report = report ++ stored_line stored
