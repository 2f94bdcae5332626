-- How it is shown that the adds of a counter leave no room for the reply of a get (this project's own).
use Rattle.std.specs.Prelude.{ℕ, ℤ, ◌++◌, Bool, true, false, not, Option, Some, None, List, [], codes, slice_get}
use Rattle.std.specs.Fmt.{decimal, signed_decimal}
use Rattle.lin_object.specs.declared.op.Op.{Op}
use Rattle.lin_object.specs.declared.reply.Reply.{Reply}
use Rattle.lin_history.specs.declared.problems.problem.ProblemCall.{ProblemCall}
use Rattle.lin_explain.specs.declared.sums_text.ShownSums.{ShownSums}
use Rattle.lin_explain.specs.CoreText.{core_line_of, event_of}
use Rattle.lin_explain.specs.TouchingText.{line_of}

-- The line of the input on which this call was called; line 0 where there is no such call.
abbrev pub call_line_of : List ℕ → Option (ProblemCall Op Reply) → ℕ
call_line_of lines None = 0
call_line_of lines (Some call) = line_of lines call.called

-- The line on which it returned.
abbrev pub return_line_of : List ℕ → Option (ProblemCall Op Reply) → ℕ
return_line_of lines None = 0
return_line_of lines (Some call) = line_of lines (event_of call.called call.returned)

-- The line above the gets: the reply of the last one is too small, or too great.
abbrev pub size_text : Bool → List ℕ
size_text true = codes "so small"
size_text false = codes "so great"

abbrev pub which_text : Option ℕ → List ℕ
which_text None = codes "this call"
which_text (Some first) = codes "the second of these calls"

abbrev pub sums_head : Option ℕ → Bool → List ℕ
sums_head from up = codes "no order gives " ++ which_text from ++ codes " " ++ size_text up ++ codes " a reply:\n"

-- The line of the earlier get, if it is counted from one.
abbrev pub first_line : List ℕ → List (ProblemCall Op Reply) → List ℕ → Option ℕ → List ℕ
first_line name calls lines None = []
first_line name calls lines (Some first) = core_line_of name lines false (slice_get calls first)

-- The value that is counted from.
abbrev pub origin_text : Option ℕ → List ℕ
origin_text None = codes " at the start\n"
origin_text (Some first) = codes " by the first\n"

abbrev pub base_line : Option ℕ → ℤ → List ℕ
base_line from base = codes "  " ++ signed_decimal base ++ origin_text from

-- What adds of one sign make.
abbrev pub sign_text : Bool → List ℕ
sign_text true = codes "+ "
sign_text false = codes "- "

abbrev pub side_text : Bool → List ℕ
side_text true = codes " by adds above 0 that "
side_text false = codes " by adds below 0 that "

abbrev pub adds_text : Bool → ℕ → List ℕ
adds_text up sum = codes "  " ++ sign_text up ++ decimal sum ++ side_text up

-- Which adds come between in each order.
abbrev pub must_when : List (ProblemCall Op Reply) → List ℕ → Option ℕ → ℕ → List ℕ
must_when calls lines None get = codes "returned before line " ++ decimal (call_line_of lines (slice_get calls get)) ++ codes "\n"
must_when calls lines (Some first) get =
    codes "were called after line " ++ decimal (return_line_of lines (slice_get calls first)) ++ codes " and returned before line " ++ decimal (call_line_of lines (slice_get calls get)) ++ codes "\n"

-- Which adds may come between.
abbrev pub may_when : List (ProblemCall Op Reply) → List ℕ → Option ℕ → ℕ → List ℕ
may_when calls lines None get = codes "were called before line " ++ decimal (return_line_of lines (slice_get calls get)) ++ codes "\n"
may_when calls lines (Some first) get =
    codes "were called before line " ++ decimal (return_line_of lines (slice_get calls get)) ++ codes " and did not return before line " ++ decimal (call_line_of lines (slice_get calls first)) ++ codes "\n"

-- The least value that there can be, or the greatest.
abbrev pub end_text : Bool → List ℕ
end_text true = codes " at least\n"
end_text false = codes " at most\n"

abbrev pub bound_line : Bool → ℤ → List ℕ
bound_line up bound = codes "  = " ++ signed_decimal bound ++ end_text up

-- The gets, and below them what there is before the last of them.
abbrev pub gets_text : List ℕ → List (ProblemCall Op Reply) → List ℕ → ShownSums → List ℕ
gets_text name calls lines shown = sums_head shown.from shown.up ++ first_line name calls lines shown.from ++ core_line_of name lines false (slice_get calls shown.get)

abbrev pub count_text : List (ProblemCall Op Reply) → List ℕ → ShownSums → List ℕ
count_text calls lines shown =
    base_line shown.from shown.base
    ++ (adds_text shown.up shown.must ++ must_when calls lines shown.from shown.get)
    ++ (adds_text (not shown.up) shown.may ++ may_when calls lines shown.from shown.get)
    ++ bound_line shown.up shown.bound

abbrev pub sums_text : List ℕ → List (ProblemCall Op Reply) → List ℕ → ShownSums → List ℕ
sums_text name calls lines shown = gets_text name calls lines shown ++ count_text calls lines shown
