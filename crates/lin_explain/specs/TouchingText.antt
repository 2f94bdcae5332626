-- How the calls are shown that put or took what a call asks for, and the call since which a mutex is held, each with the lines of
-- the input on which its events are (this project's own).
use Rattle.std.specs.Prelude.{ℕ, ℤ, ◌-◌, ◌==◌, ◌++◌, nat_le, Bool, true, false, Option, Some, None, unwrap_or, List, [], ◌∷◌, codes, length, take, slice_get, if◌then◌else◌}
use Rattle.std.specs.List.{list_any}
use Rattle.std.specs.Fmt.{decimal, signed_decimal}
use Rattle.lin_object.specs.declared.op.Op.{Op}
use Rattle.lin_object.specs.declared.op.Op.TheVariants.{Lock, Unlock, TryLock}
use Rattle.lin_object.specs.declared.reply.Reply.{Reply}
use Rattle.lin_object.specs.declared.state.ObjState.{ObjState}
use Rattle.lin_object.specs.PrintedForms.{op_text, reply_text}
use Rattle.lin_history.specs.declared.problems.problem.ProblemCall.{ProblemCall}
use Rattle.lin_explain.specs.declared.touching.Asked.{Asked}
use Rattle.lin_explain.specs.declared.touching.Asked.TheVariants.{Item, Value, Member, Entry}
use Rattle.lin_explain.specs.declared.touching.Touch.{Touch}
use Rattle.lin_explain.specs.declared.touching.Touch.TheVariants.{Put, Took}
use Rattle.lin_explain.specs.declared.touching.Touching.{Touching}
use Rattle.lin_explain.specs.declared.touching_text.TheConstants.{MAX_TOUCHING}
use Rattle.lin_explain.specs.Touching.{asked_in, touches_from, held_after}

-- The line of the input on which an event is, whose number counts from 1; 0 where none is known.
abbrev pub line_of : List ℕ → ℕ → ℕ
line_of lines event = unwrap_or (slice_get lines (event - 1)) 0

-- What is recorded of a call: its reply, and the lines of its call and its return; of a pending call the line of its call.
abbrev pub recorded_text : List ℕ → ℕ → Option (ℕ × Reply) → List ℕ
recorded_text lines called None = codes " (line " ++ decimal (line_of lines called) ++ codes ")"
recorded_text lines called (Some returned) =
    codes " = " ++ reply_text returned.1 ++ codes " (lines " ++ decimal (line_of lines called) ++ codes " and " ++ decimal (line_of lines returned.0) ++ codes ")"

-- Whether a call is in the run.
abbrev pub place_text : Bool → List ℕ
place_text true = codes ", in the run\n"
place_text false = codes ", not in the run\n"

-- The line of a call that did this: its process, its operation, what is recorded of it, and whether it is in the run.
abbrev pub about_line : List ℕ → List ℕ → Bool → ProblemCall Op Reply → List ℕ
about_line lines did in_run call =
    codes "  " ++ did ++ codes " by " ++ decimal call.process ++ codes ": " ++ op_text call.op ++ recorded_text lines call.called call.returned ++ place_text in_run

-- The same, where it is a call.
abbrev pub about_line_of : List ℕ → List ℕ → Bool → Option (ProblemCall Op Reply) → List ℕ
about_line_of lines did in_run None = []
about_line_of lines did in_run (Some call) = about_line lines did in_run call

-- The call is in the run.
abbrev pub is_in_run : List ℕ → ℕ → Bool
is_in_run run call = list_any (λ c. c == call) run

-- What a call did, as a word.
abbrev pub did_text : Touch → List ℕ
did_text Put = codes "put"
did_text Took = codes "taken"

-- The lines of the calls that put or took something.
abbrev pub touch_lines : List (ProblemCall Op Reply) → List ℕ → List ℕ → List Touching → List ℕ
touch_lines calls run lines [] = []
touch_lines calls run lines (t ∷ ts) = about_line_of lines (did_text t.touch) (is_in_run run t.call) (slice_get calls t.call) ++ touch_lines calls run lines ts

-- The call put it.
abbrev pub touch_is_put : Touch → Bool
touch_is_put Put = true
touch_is_put Took = false

abbrev pub is_put : Touching → Bool
is_put t = touch_is_put t.touch

-- The line that says that no call put this value under this key.
abbrev pub no_pair_line : ℤ → ℤ → List ℕ
no_pair_line key value = codes "  no call put " ++ signed_decimal key ++ codes ": " ++ signed_decimal value ++ codes "\n"

-- The line that says that no call put what is asked for.
abbrev pub no_put_line : Asked → List ℕ
no_put_line (Item value) = codes "  no call put " ++ signed_decimal value ++ codes "\n"
no_put_line (Value value) = codes "  no call put " ++ signed_decimal value ++ codes "\n"
no_put_line (Member value) = codes "  no call put " ++ signed_decimal value ++ codes "\n"
no_put_line (Entry key value) = no_pair_line key value

-- That line, where none of these put it.
abbrev pub no_put_lines : Asked → List Touching → List ℕ
no_put_lines asked found = if list_any is_put found then [] else no_put_line asked

-- How many of so many calls are not shown, where there are any.
abbrev pub more_line : ℕ → List ℕ
more_line count = if nat_le count MAX_TOUCHING then [] else codes "  .. and " ++ decimal (count - MAX_TOUCHING) ++ codes " more\n"

-- What is known of the value that is asked for: whether no call put it, the first calls that put or took it, and how many
-- more did.
abbrev pub touches_text : List (ProblemCall Op Reply) → List ℕ → List ℕ → Asked → List Touching → List ℕ
touches_text calls run lines asked found = no_put_lines asked found ++ touch_lines calls run lines (take MAX_TOUCHING found) ++ more_line (length found)

-- The same of what call `asker` asks for; nothing where it asks for no value.
abbrev pub asked_text : List (ProblemCall Op Reply) → List (Option Reply) → List ℕ → List ℕ → ℕ → Option Asked → List ℕ
asked_text calls replies run lines asker None = []
asked_text calls replies run lines asker (Some asked) = touches_text calls run lines asked (touches_from replies asked asker 0 calls)

-- The line of the call since which a mutex is held after the run; nothing where it is free.
abbrev pub held_line : List (ProblemCall Op Reply) → List ℕ → List ℕ → Option ℕ → List ℕ
held_line calls run lines None = []
held_line calls run lines (Some number) = about_line_of lines (codes "held") (is_in_run run number) (slice_get calls number)

abbrev pub held_text : List (ProblemCall Op Reply) → List ℕ → List ℕ → List ℕ
held_text calls run lines = held_line calls run lines (held_after calls None run)

-- The same below an operation of a mutex; nothing below others.
abbrev pub holder_text : List (ProblemCall Op Reply) → List ℕ → List ℕ → Op → List ℕ
holder_text calls run lines Lock = held_text calls run lines
holder_text calls run lines Unlock = held_text calls run lines
holder_text calls run lines TryLock = held_text calls run lines
holder_text calls run lines op = []

-- What is known of a call that could come next after the run, which leads to this state and which has this number: which calls
-- put or took the value that it asks for or should have found, or since which call the mutex is held.
abbrev pub known_text : List (ProblemCall Op Reply) → List (Option Reply) → List ℕ → List ℕ → ObjState → ℕ → ProblemCall Op Reply → List ℕ
known_text calls replies run lines state number call = asked_text calls replies run lines number (asked_in state call.op call.returned) ++ holder_text calls run lines call.op

-- The same, where it is a call.
abbrev pub known_text_of : List (ProblemCall Op Reply) → List (Option Reply) → List ℕ → List ℕ → ObjState → ℕ → Option (ProblemCall Op Reply) → List ℕ
known_text_of calls replies run lines state number None = []
known_text_of calls replies run lines state number (Some call) = known_text calls replies run lines state number call
