-- The line below calls that alone have no order: what no other call does, and between which lines of the input (this project's own).
use Rattle.std.specs.Prelude.{ℕ, ℤ, pos, ◌==◌, ◌++◌, ◌&&◌, ◌||◌, not, nat_lt, nat_le, Bool, true, false, Option, Some, None, List, [], ◌∷◌, codes, filter, length, slice_get, if◌then◌else◌}
use Rattle.std.specs.List.{list_all, list_any}
use Rattle.std.specs.Option.{option_and_then, option_map}
use Rattle.std.specs.Ordering.{int_eq}
use Rattle.std.specs.Fmt.{decimal}
use Rattle.lin_object.specs.declared.op.Op.{Op}
use Rattle.lin_object.specs.declared.op.Op.TheVariants as ops
use Rattle.lin_object.specs.declared.reply.Reply.{Reply}
use Rattle.lin_object.specs.declared.reply.Reply.TheVariants.{Okay, Int, Flag, Empty}
use Rattle.lin_history.specs.declared.problems.problem.ProblemCall.{ProblemCall}
use Rattle.lin_explain.specs.declared.core_text.CoreCall.{CoreCall}
use Rattle.lin_explain.specs.CoreText.{is_key, unless_pending, last_event}
use Rattle.lin_explain.specs.TouchingText.{line_of}

-- The answer is 'yes'.
abbrev pub is_yes : Reply → Bool
is_yes (Flag true) = true
is_yes reply = false

-- The call compares a register with a value.
abbrev pub is_cas : Option Op → Bool
is_cas None = false
is_cas (Some (ops.Cas a b)) = true
is_cas (Some op) = false

abbrev pub op_at : List (ProblemCall Op Reply) → CoreCall → Option Op
op_at calls shown = option_map (λ call. call.op) (slice_get calls shown.call)

-- What no other call does, by an operation of the core.
abbrev pub not_done : Op → List ℕ
not_done (ops.Write v) = codes "writes such a value"
not_done ops.Read = codes "writes such a value"
not_done (ops.Add d) = codes "changes the counter"
not_done ops.Get = codes "changes the counter"
not_done (ops.Enqueue v) = codes "puts or takes such an item"
not_done ops.Dequeue = codes "puts or takes such an item"
not_done (ops.Push v) = codes "puts or takes such an item"
not_done ops.Pop = codes "puts or takes such an item"
not_done (ops.Insert v) = codes "adds or removes such an item"
not_done (ops.Remove v) = codes "adds or removes such an item"
not_done (ops.Contains v) = codes "adds or removes such an item"
not_done op = codes "helps"

abbrev pub not_done_of : Option Op → List ℕ
not_done_of None = codes "helps"
not_done_of (Some op) = not_done op

-- ---- from where on calls matter

-- The call gives its object, or a key or a member of it, what it has then, whatever that had before.
abbrev pub gives_anew : Op → Option (ℕ × Reply) → Bool
gives_anew (ops.Write v) returned = true
gives_anew (ops.Put k v) returned = true
gives_anew (ops.Insert v) (Some returned) = is_yes returned.1
gives_anew op returned = false

-- It returned before this event.
abbrev pub is_back_before : ℕ → Option (ℕ × Reply) → Bool
is_back_before event None = false
is_back_before event (Some returned) = nat_lt returned.0 event

-- The first call of a core gives anew, and is the only one or returned before the second was called. What came before it does not
-- matter then.
abbrev pub begins_anew : Option (ProblemCall Op Reply) → Option (ProblemCall Op Reply) → Bool
begins_anew (Some first) (Some second) = gives_anew first.op first.returned && is_back_before second.called first.returned
begins_anew None second = false
begins_anew (Some first) None = gives_anew first.op first.returned

-- The call of this place in a core.
abbrev pub call_at : List (ProblemCall Op Reply) → List CoreCall → ℕ → Option (ProblemCall Op Reply)
call_at calls core place = option_and_then (λ shown. slice_get calls shown.call) (slice_get core place)

-- The item that a reply gives.
abbrev pub given : Reply → Option ℤ
given (Int v) = Some v
given reply = None

-- The item that a call put into a queue or a stack or took out of it, where that is recorded.
abbrev pub item_of : Op → Option (ℕ × Reply) → Option ℤ
item_of (ops.Enqueue v) returned = Some v
item_of (ops.Push v) returned = Some v
item_of ops.Dequeue returned = option_and_then (λ r. given r.1) returned
item_of ops.Pop returned = option_and_then (λ r. given r.1) returned
item_of op returned = None

-- The same of a call of a core, as it is shown.
abbrev pub shown_item : List (ProblemCall Op Reply) → CoreCall → Option ℤ
shown_item calls shown = option_and_then (λ call. item_of call.op (unless_pending shown.is_pending call.returned)) (slice_get calls shown.call)

-- The item is that of a call of the core.
abbrev pub is_of_core : List (ProblemCall Op Reply) → List CoreCall → Option ℤ → Bool
is_of_core calls core None = false
is_of_core calls core (Some item) = list_any (λ shown. is_key item (shown_item calls shown)) core

-- The call put such an item in or took it out, and returned before this event.
abbrev pub came_before : List (ProblemCall Op Reply) → List CoreCall → ℕ → ProblemCall Op Reply → Bool
came_before calls core event call = is_back_before event call.returned && is_of_core calls core (item_of call.op call.returned)

-- Some call did so before the first of the core was called. Then as many such calls put each of the core's items in as took it out.
abbrev pub has_earlier : List (ProblemCall Op Reply) → List CoreCall → Option (ProblemCall Op Reply) → Bool
has_earlier calls core None = false
has_earlier calls core (Some first) = list_any (came_before calls core first.called) calls

-- What came before the first call of a core does not matter.
abbrev pub starts_late : List (ProblemCall Op Reply) → List CoreCall → Bool
starts_late calls core = begins_anew (call_at calls core 0) (call_at calls core 1) || has_earlier calls core (call_at calls core 0)

-- ---- what no other call does

-- The first event that the line speaks of: that with which the core begins, or the call of its first call where what came before that
-- does not matter; else 0.
abbrev pub first_event : Option ℕ → Bool → Option (ProblemCall Op Reply) → ℕ
first_event (Some from) is_late first = from
first_event None true (Some first) = first.called
first_event None is_late first = 0

abbrev pub first_event_of : List (ProblemCall Op Reply) → Option ℕ → List CoreCall → ℕ
first_event_of calls from core = first_event from (starts_late calls core) (call_at calls core 0)

-- The line speaks of the call: it was called by the last event, and had not returned before the first.
abbrev pub is_between : ℕ → ℕ → ProblemCall Op Reply → Bool
is_between first last call = nat_le call.called last && not (is_back_before first call.returned)

-- It is one of the core's: the one that was called at the same event.
abbrev pub was_called_at : ℕ → Option (ProblemCall Op Reply) → Bool
was_called_at event None = false
was_called_at event (Some call) = call.called == event

abbrev pub is_one_of : List (ProblemCall Op Reply) → List CoreCall → ProblemCall Op Reply → Bool
is_one_of calls core call = list_any (λ shown. was_called_at call.called (slice_get calls shown.call)) core

-- The value that a call writes or read, the item that it put or took, or the item of a set that it is on.
abbrev pub told_by : Op → Option (ℕ × Reply) → Option ℤ
told_by (ops.Write v) returned = Some v
told_by ops.Read returned = option_and_then (λ r. given r.1) returned
told_by (ops.Insert v) returned = Some v
told_by (ops.Remove v) returned = Some v
told_by (ops.Contains v) returned = Some v
told_by op returned = item_of op returned

-- The same of a call of a core, as it is shown.
abbrev pub told_at : List (ProblemCall Op Reply) → CoreCall → Option ℤ
told_at calls shown = option_and_then (λ call. told_by call.op (unless_pending shown.is_pending call.returned)) (slice_get calls shown.call)

-- It is such a value or item: that of a call of the core.
abbrev pub is_such : List (ProblemCall Op Reply) → List CoreCall → ℤ → Bool
is_such calls core value = list_any (λ shown. is_key value (told_at calls shown)) core

abbrev pub gives_such : List (ProblemCall Op Reply) → List CoreCall → Option ℤ → Bool
gives_such calls core None = false
gives_such calls core (Some value) = is_such calls core value

-- The answer is 'yes', or may be.
abbrev pub may_be_yes : Option (ℕ × Reply) → Bool
may_be_yes None = true
may_be_yes (Some returned) = is_yes returned.1

-- A call that takes an item takes such a one, or may, since its reply is not known.
abbrev pub may_take : List (ProblemCall Op Reply) → List CoreCall → Option (ℕ × Reply) → Bool
may_take calls core None = true
may_take calls core (Some returned) = gives_such calls core (given returned.1)

-- The call writes such a value in place of another, puts or takes such an item, adds or removes such an item of a set, or changes the counter.
abbrev pub does_such : List (ProblemCall Op Reply) → List CoreCall → Op → Option (ℕ × Reply) → Bool
does_such calls core (ops.Write v) returned = is_such calls core v
does_such calls core (ops.Cas a b) returned = may_be_yes returned && (not (int_eq a b) && is_such calls core b)
does_such calls core (ops.Add d) returned = not (int_eq d (pos 0))
does_such calls core (ops.Enqueue v) returned = is_such calls core v
does_such calls core (ops.Push v) returned = is_such calls core v
does_such calls core ops.Dequeue returned = may_take calls core returned
does_such calls core ops.Pop returned = may_take calls core returned
does_such calls core (ops.Insert v) returned = may_be_yes returned && is_such calls core v
does_such calls core (ops.Remove v) returned = may_be_yes returned && is_such calls core v
does_such calls core op returned = false

-- The call is another one between the two events, and does.
abbrev pub is_other_such : List (ProblemCall Op Reply) → List CoreCall → ℕ → ℕ → ProblemCall Op Reply → Bool
is_other_such calls core first last call = is_between first last call && (does_such calls core call.op call.returned && not (is_one_of calls core call))

-- Some other call does.
abbrev pub some_other_does : List (ProblemCall Op Reply) → Option ℕ → List CoreCall → Bool
some_other_does calls from core = list_any (is_other_such calls core (first_event_of calls from core) (last_event calls 0 core)) calls

-- A call of the core compares a register with a value.
abbrev pub has_cas : List (ProblemCall Op Reply) → List CoreCall → Bool
has_cas calls core = list_any (λ shown. is_cas (op_at calls shown)) core

-- What no other call does: of a core with a call that compares it is said in general, and wherever some other call does such a thing.
-- That none helps says that the calls are a core whatever the others are.
abbrev pub not_done_by_others : List (ProblemCall Op Reply) → Option ℕ → List CoreCall → List ℕ
not_done_by_others calls from core =
    if has_cas calls core || some_other_does calls from core then codes "helps" else not_done_of (option_and_then (op_at calls) (slice_get core 0))

-- ---- the line

-- From which line on calls matter, where not all do.
abbrev pub from_text : List ℕ → Bool → Option (ProblemCall Op Reply) → List ℕ
from_text lines true (Some first) = codes "from line " ++ decimal (line_of lines first.called) ++ codes " to line "
from_text lines is_late first = codes "up to line "

abbrev pub from_text_of : List (ProblemCall Op Reply) → List ℕ → List CoreCall → List ℕ
from_text_of calls lines core = from_text lines (starts_late calls core) (call_at calls core 0)

-- Up to which line, and what no other call does.
abbrev pub until_text : List (ProblemCall Op Reply) → List ℕ → Option ℕ → List CoreCall → List ℕ
until_text calls lines from core = decimal (line_of lines (last_event calls 0 core)) ++ codes " " ++ not_done_by_others calls from core

-- So many calls that returned before the event put the item in, and so many took it out.
abbrev pub put_by : Op → Option ℤ
put_by (ops.Enqueue v) = Some v
put_by (ops.Push v) = Some v
put_by op = None

abbrev pub taken_by : Op → Option (ℕ × Reply) → Option ℤ
taken_by ops.Dequeue returned = option_and_then (λ r. given r.1) returned
taken_by ops.Pop returned = option_and_then (λ r. given r.1) returned
taken_by op returned = None

abbrev pub puts_before : List (ProblemCall Op Reply) → ℕ → ℤ → ℕ
puts_before calls event item = length (filter (λ (x : ProblemCall Op Reply). is_back_before event x.returned && is_key item (put_by x.op)) calls)

abbrev pub takes_before : List (ProblemCall Op Reply) → ℕ → ℤ → ℕ
takes_before calls event item = length (filter (λ (x : ProblemCall Op Reply). is_back_before event x.returned && is_key item (taken_by x.op x.returned)) calls)

-- Each item of the core was put as often as it was taken before the event.
abbrev pub is_out_at : List (ProblemCall Op Reply) → ℕ → Option ℤ → Bool
is_out_at calls event None = true
is_out_at calls event (Some item) = puts_before calls event item == takes_before calls event item

abbrev pub are_out_at : List (ProblemCall Op Reply) → List CoreCall → ℕ → Bool
are_out_at calls core event = list_all (λ shown. is_out_at calls event (shown_item calls shown)) core

-- Some were in before the first call of the core, and all were out again by then.
abbrev pub were_in_and_out : List (ProblemCall Op Reply) → List CoreCall → Option (ProblemCall Op Reply) → Bool
were_in_and_out calls core None = false
were_in_and_out calls core (Some first) = has_earlier calls core (Some first) && are_out_at calls core first.called

-- That the items were out at the first call of the core, where some were in before.
abbrev pub before_text : List ℕ → Bool → Option (ProblemCall Op Reply) → List ℕ
before_text lines true (Some first) = codes ", and before line " ++ decimal (line_of lines first.called) ++ codes " each was taken as often as it was put\n"
before_text lines were_in first = codes "\n"

abbrev pub before_text_of : List (ProblemCall Op Reply) → List ℕ → List CoreCall → List ℕ
before_text_of calls lines core = before_text lines (were_in_and_out calls core (call_at calls core 0)) (call_at calls core 0)

-- The reply is that something was done; 'yes' or 'no'; a number; or a number, or that there was none.
abbrev pub is_okay : Reply → Bool
is_okay Okay = true
is_okay reply = false

abbrev pub is_flag : Reply → Bool
is_flag (Flag b) = true
is_flag reply = false

abbrev pub is_number : Reply → Bool
is_number (Int v) = true
is_number reply = false

abbrev pub is_number_or_none : Reply → Bool
is_number_or_none (Int v) = true
is_number_or_none Empty = true
is_number_or_none reply = false

-- The operation gives such a reply in some state.
abbrev pub may_reply : Op → Reply → Bool
may_reply (ops.Write v) reply = is_okay reply
may_reply ops.Read reply = is_number reply
may_reply (ops.Cas a b) reply = is_flag reply
may_reply (ops.Add d) reply = is_okay reply
may_reply ops.Get reply = is_number reply
may_reply (ops.Enqueue v) reply = is_okay reply
may_reply ops.Dequeue reply = is_number_or_none reply
may_reply (ops.Push v) reply = is_okay reply
may_reply ops.Pop reply = is_number_or_none reply
may_reply (ops.Insert v) reply = is_flag reply
may_reply (ops.Remove v) reply = is_flag reply
may_reply (ops.Contains v) reply = is_flag reply
may_reply ops.Lock reply = is_okay reply
may_reply ops.Unlock reply = is_okay reply
may_reply ops.TryLock reply = is_flag reply
may_reply (ops.Put k v) reply = is_okay reply
may_reply (ops.Lookup k) reply = is_number_or_none reply
may_reply (ops.Delete k) reply = is_flag reply

-- It is recorded that it gave another.
abbrev pub gave_another : Op → Option (ℕ × Reply) → Bool
gave_another op None = false
gave_another op (Some recorded) = not (may_reply op recorded.1)

abbrev pub gave_another_of : Option (ProblemCall Op Reply) → Bool
gave_another_of None = false
gave_another_of (Some call) = gave_another call.op call.returned

-- A call of the core did.
abbrev pub has_odd_reply : List (ProblemCall Op Reply) → List CoreCall → Bool
has_odd_reply calls core = list_any (λ shown. gave_another_of (slice_get calls shown.call)) core

-- The line below the calls: between which lines of the input no other call helps. Where one of them returned with a reply that its
-- operation never gives, none helps whatever it does.
abbrev pub others_line_if : Bool → List (ProblemCall Op Reply) → List ℕ → List CoreCall → List ℕ
others_line_if true calls lines core =
    codes "no other call up to line " ++ decimal (line_of lines (last_event calls 0 core)) ++ codes " helps\n"
others_line_if false calls lines core =
    codes "no other call " ++ from_text_of calls lines core ++ until_text calls lines None core ++ before_text_of calls lines core

abbrev pub others_line : List (ProblemCall Op Reply) → List ℕ → List CoreCall → List ℕ
others_line calls lines core = others_line_if (has_odd_reply calls core) calls lines core

-- The same of calls that have none from right before an event on.
abbrev pub since_text : List ℕ → ℕ → List ℕ
since_text lines from = codes "no other call from line " ++ decimal (line_of lines from) ++ codes " to line "

abbrev pub others_line_since : List (ProblemCall Op Reply) → List ℕ → Option ℕ → List CoreCall → List ℕ
others_line_since calls lines None core = others_line calls lines core
others_line_since calls lines (Some from) core =
    since_text lines from ++ until_text calls lines (Some from) core ++ codes "\n"
