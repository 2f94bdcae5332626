-- How an explanation is shown (this project's own).
use Rattle.std.specs.Prelude.{ℕ, ℤ, ◌++◌, Option, Some, None, List, [], ◌∷◌, codes, slice_get, if◌then◌else◌}
use Rattle.std.specs.Fmt.{decimal}
use Rattle.lin_object.specs.declared.op.Op.{Op}
use Rattle.lin_object.specs.declared.op.Op.TheVariants.{Put, Lookup, Delete}
use Rattle.lin_object.specs.declared.reply.Reply.{Reply}
use Rattle.lin_object.specs.declared.state.ObjState.{ObjState}
use Rattle.lin_object.specs.Items.{is_in, with_in_order}
use Rattle.lin_object.specs.PrintedForms.{op_text, reply_text}
use Rattle.lin_history.specs.declared.problems.problem.ProblemCall.{ProblemCall}
use Rattle.lin_explain.specs.declared.explanation.NextCall.{NextCall}
use Rattle.lin_explain.specs.StateText.{state_text}
use Rattle.lin_explain.specs.TouchingText.{recorded_text, known_text_of}

-- The key that an operation on a map asks for; none of another kind's operations.
abbrev pub key_of : Op → Option ℤ
key_of (Put key value) = Some key
key_of (Lookup key) = Some key
key_of (Delete key) = Some key
key_of op = None

-- Keys in increasing order, with this one where it is not among them.
abbrev pub with_key : List ℤ → Option ℤ → List ℤ
with_key keys None = keys
with_key keys (Some key) = if is_in key keys then keys else with_in_order key keys

-- The keys, with that of this call, where it is a call.
abbrev pub with_asked : List ℤ → Option (ProblemCall Op Reply) → List ℤ
with_asked keys None = keys
with_asked keys (Some call) = with_key keys (key_of call.op)

-- The keys, with those that the next calls ask for.
abbrev pub keys_with : List (ProblemCall Op Reply) → List ℤ → List NextCall → List ℤ
keys_with calls keys [] = keys
keys_with calls keys (n ∷ ns) = keys_with calls (with_asked keys (slice_get calls n.call)) ns

-- The line of the state after the run.
abbrev pub state_line : List ℕ → List ℤ → ObjState → List ℕ
state_line name keys state = codes "after the run: " ++ name ++ codes " = " ++ state_text keys state ++ codes "\n"

-- What a call would answer after the run, or that it has no step there.
abbrev pub answer_text : Option Reply → List ℕ
answer_text None = codes ": it cannot be done here\n"
answer_text (Some reply) = codes ": here it would be " ++ reply_text reply ++ codes "\n"

-- The line of a call that could come next: its process, its object and its operation, what is recorded of it, and what it would
-- answer.
abbrev pub next_line : List ℕ → List ℕ → ProblemCall Op Reply → Option Reply → List ℕ
next_line name lines call answer =
    codes "next " ++ decimal call.process ++ codes " " ++ name ++ codes " " ++ op_text call.op ++ recorded_text lines call.called call.returned ++ answer_text answer

-- The line of such a call, where it is a call.
abbrev pub next_line_of : List ℕ → List ℕ → Option Reply → Option (ProblemCall Op Reply) → List ℕ
next_line_of name lines answer None = []
next_line_of name lines answer (Some call) = next_line name lines call answer

-- The lines of a call that could come next after the run: what it would answer, and below it what is known of it.
abbrev pub lines_of : List ℕ → List (ProblemCall Op Reply) → List (Option Reply) → List ℕ → List ℕ → ObjState → NextCall → List ℕ
lines_of name calls replies run lines state next =
    next_line_of name lines next.answer (slice_get calls next.call) ++ known_text_of calls replies run lines state next.call (slice_get calls next.call)

-- The lines of the calls that could come next after the run.
abbrev pub next_lines : List ℕ → List (ProblemCall Op Reply) → List (Option Reply) → List ℕ → List ℕ → ObjState → List NextCall → List ℕ
next_lines name calls replies run lines state [] = []
next_lines name calls replies run lines state (n ∷ ns) = lines_of name calls replies run lines state n ++ next_lines name calls replies run lines state ns

-- The state after the run, of a map with the keys that the next calls ask for alone, and the calls that could come next, where
-- the calls have these replies and the events are on these lines.
abbrev pub explanation_text : List ℕ → List (ProblemCall Op Reply) → List (Option Reply) → List ℕ → List ℕ → ObjState → List NextCall → List ℕ
explanation_text name calls replies run lines state next = state_line name (keys_with calls [] next) state ++ next_lines name calls replies run lines state next
