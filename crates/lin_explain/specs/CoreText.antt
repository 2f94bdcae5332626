-- How calls are shown that alone have no order (this project's own).
use Rattle.std.specs.Prelude.{ℕ, ℤ, ◌==◌, ◌++◌, ◌&&◌, ◌||◌, not, nat_lt, Bool, true, false, Option, Some, None, List, [], ◌∷◌, codes, length, slice_get, if◌then◌else◌}
use Rattle.std.specs.List.{list_all, list_any}
use Rattle.std.specs.Option.{option_and_then, option_map}
use Rattle.std.specs.Ordering.{int_eq}
use Rattle.std.specs.Fmt.{decimal, signed_decimal}
use Rattle.lin_object.specs.declared.op.Op.{Op}
use Rattle.lin_object.specs.declared.op.Op.TheVariants as ops
use Rattle.lin_object.specs.declared.reply.Reply.{Reply}
use Rattle.lin_object.specs.declared.reply.Reply.TheVariants.{Okay, Int, Flag, Empty}
use Rattle.lin_object.specs.PrintedForms.{op_text}
use Rattle.lin_history.specs.declared.problems.problem.ProblemCall.{ProblemCall}
use Rattle.lin_explain.specs.declared.core_text.CoreCall.{CoreCall}
use Rattle.lin_explain.specs.ExplanationText.{key_of}
use Rattle.lin_explain.specs.TouchingText.{line_of, recorded_text}

-- The key of a map, or the member of a set, that an operation is on; none of another kind's operations.
abbrev pub key_on : Op → Option ℤ
key_on (ops.Insert member) = Some member
key_on (ops.Remove member) = Some member
key_on (ops.Contains member) = Some member
key_on op = key_of op

-- The same of the call of this number.
abbrev pub key_at : List (ProblemCall Op Reply) → ℕ → Option ℤ
key_at calls number = option_and_then (λ call. key_on call.op) (slice_get calls number)

-- The call is on this key.
abbrev pub is_key : ℤ → Option ℤ → Bool
is_key key None = false
is_key key (Some other) = int_eq other key

abbrev pub is_on_key : List (ProblemCall Op Reply) → ℤ → CoreCall → Bool
is_on_key calls key shown = is_key key (key_at calls shown.call)

-- The key that all these calls are on, where there is one.
abbrev pub key_if_all : List (ProblemCall Op Reply) → List CoreCall → Option ℤ → Option ℤ
key_if_all calls core None = None
key_if_all calls core (Some key) = if list_all (is_on_key calls key) core then Some key else None

abbrev pub core_key : List (ProblemCall Op Reply) → List CoreCall → Option ℤ
core_key calls core = key_if_all calls core (option_and_then (λ first. key_at calls first.call) (slice_get core 0))

-- The line above the calls: how many they are, and on which key where that is one.
abbrev pub on_key_text : Option ℤ → List ℕ
on_key_text None = []
on_key_text (Some key) = codes " on key " ++ signed_decimal key

abbrev pub core_head : ℕ → Option ℤ → List ℕ
core_head count key =
    if count == 1 then codes "this call" ++ on_key_text key ++ codes " alone has no order" else codes "these " ++ decimal count ++ codes " calls" ++ on_key_text key ++ codes " alone have no order"

-- The object, or the key that was named.
abbrev pub holder_text : List ℕ → Option ℤ → List ℕ
holder_text name None = name
holder_text name (Some key) = codes "it"

-- The end of that line: from right before which event they have none, whatever was held then, where that is not the start.
abbrev pub whatever_text : List ℕ → List ℕ → Option ℤ → Option ℕ → List ℕ
whatever_text name lines key None = codes ":\n"
whatever_text name lines key (Some from) = codes ", whatever " ++ holder_text name key ++ codes " held before line " ++ decimal (line_of lines from) ++ codes ":\n"

-- What is recorded of a call, or nothing where it is taken as pending.
abbrev pub unless_pending : Bool → Option (ℕ × Reply) → Option (ℕ × Reply)
unless_pending is_pending returned = if is_pending then None else returned

-- The line of a call.
abbrev pub core_line : List ℕ → List ℕ → Bool → ProblemCall Op Reply → List ℕ
core_line name lines is_pending call =
    codes "  " ++ decimal call.process ++ codes " " ++ name ++ codes " " ++ op_text call.op ++ recorded_text lines call.called (unless_pending is_pending call.returned) ++ codes "\n"

-- The same, where it is a call.
abbrev pub core_line_of : List ℕ → List ℕ → Bool → Option (ProblemCall Op Reply) → List ℕ
core_line_of name lines is_pending None = []
core_line_of name lines is_pending (Some call) = core_line name lines is_pending call

-- The lines of these calls.
abbrev pub core_lines : List ℕ → List (ProblemCall Op Reply) → List ℕ → List CoreCall → List ℕ
core_lines name calls lines [] = []
core_lines name calls lines (c ∷ cs) = core_line_of name lines c.is_pending (slice_get calls c.call) ++ core_lines name calls lines cs

-- The last event of a call with what is shown of its return.
abbrev pub event_of : ℕ → Option (ℕ × Reply) → ℕ
event_of called None = called
event_of called (Some returned) = returned.0

-- The last event of a call of a core, as it is shown; 0 of none.
abbrev pub last_event_of : Bool → Option (ProblemCall Op Reply) → ℕ
last_event_of is_pending None = 0
last_event_of is_pending (Some call) = event_of call.called (unless_pending is_pending call.returned)

-- The later of two events.
abbrev pub later : ℕ → ℕ → ℕ
later a b = if nat_lt a b then b else a

-- The last event of these calls, and of one before.
abbrev pub last_event : List (ProblemCall Op Reply) → ℕ → List CoreCall → ℕ
last_event calls before [] = before
last_event calls before (c ∷ cs) = last_event calls (later before (last_event_of c.is_pending (slice_get calls c.call))) cs
