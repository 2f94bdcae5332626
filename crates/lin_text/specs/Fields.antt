-- The fields of a line's JSON value: each is none where it is absent or is not what it is to be.
use Rattle.std.specs.Prelude.{ℕ, ◌^◌, ◌&&◌, ℤ, pos, negsuc, Bool, true, false, is_some, is_none, List, [], ◌∷◌, codes, bytes_eq, nat_lt, Option, Some, None, option_map, option_and_then, ok_or, Result, Err, if◌then◌else◌}
use Rattle.std.specs.Ordering.{int_eq}
use Rattle.serde_json.specs.Data.{Data, null, boolean, number, string, array, object, Items, no_items, item}
use Rattle.serde_json.specs.Find.{get, as_str, as_number, as_i64, as_array}
use Rattle.lin_object.specs.Names.{beside}
use Rattle.lin_object.specs.Kinds.{kind_names, starts_with_number, operations}
use Rattle.lin_object.specs.declared.kind.Kind.{Kind}
use Rattle.lin_object.specs.declared.op.Op.{Op}
use Rattle.lin_object.specs.declared.reply.Reply.{Reply}
use Rattle.lin_object.specs.declared.reply.Reply.TheVariants.{Okay, Int, Flag, Empty}
use Rattle.lin_history.specs.Recorder.Names.{is_name}
use Rattle.lin_text.specs.declared.line.EventKind.{EventKind}
use Rattle.lin_text.specs.declared.line.EventKind.TheVariants.{Header, Declaration, Call, Return, Fail, Info}
use Rattle.lin_text.specs.declared.line.Format.{Format}
use Rattle.lin_text.specs.declared.line.Format.TheVariants.{Unstated, One, Two}
use Rattle.lin_text.specs.declared.cause.Cause.{Cause}
use Rattle.lin_text.specs.declared.cause.Cause.TheVariants as causes

-- ---- the parts of a line's value: None where a part is absent or no such part

-- The value, where it passes a test.
abbrev pub when : {A : Type 0} → (A → Bool) → A → Option A
when p x = if p x then Some x else None

-- The text at a key.
abbrev pub text_at : List ℕ → Data → Option (List ℕ)
text_at key d = option_and_then as_str (get key d)

-- A whole number of 64 bits.
abbrev pub whole : Data → Option ℤ
whole d = option_and_then as_i64 (as_number d)

-- A process's number, below 2^32.
abbrev pub process_number : ℤ → Option ℕ
process_number (pos n) = if nat_lt n (2 ^ 32) then Some n else None
process_number (negsuc n) = None

-- The events by their words.
abbrev pub events : List (List ℕ × EventKind)
events = (codes "object", Declaration) ∷ (codes "call", Call) ∷ (codes "return", Return) ∷ (codes "fail", Fail) ∷ (codes "info", Info) ∷ []

-- The kind of event by the word at `event`.
unfoldable pub kind_by_word : Data → Option EventKind
kind_by_word d = option_and_then (beside events) (text_at (codes "event") d)

-- The line is a header: no line that counts comes before it, and it has a format and no event.
unfoldable pub is_header : Format → Data → Bool
is_header Unstated d = is_some (get (codes "format") d) && is_none (get (codes "event") d)
is_header One d = false
is_header Two d = false

-- The format is the second one.
abbrev pub is_two : Format → Bool
is_two Unstated = false
is_two One = false
is_two Two = true

-- A text of this format may have events of this kind.
abbrev pub has_kind : Format → EventKind → Bool
has_kind format Header = true
has_kind format Declaration = true
has_kind format Call = true
has_kind format Return = true
has_kind format Fail = is_two format
has_kind format Info = is_two format

-- Which kind of event the line is, in a text of this format, or that it is the header.
unfoldable pub event_kind_in : Format → Data → Option EventKind
event_kind_in format d = if is_header format d then Some Header else option_and_then (when (has_kind format)) (kind_by_word d)

-- The number 2.
abbrev pub is_number_2 : ℤ → Bool
is_number_2 n = int_eq n (pos 2)

-- The format of a header is the whole number 2.
unfoldable pub states_two : Data → Bool
states_two d = is_some (option_and_then (when is_number_2) (option_and_then whole (get (codes "format") d)))

-- The number at `process`.
unfoldable pub process_in : Data → Option ℕ
process_in d = option_and_then process_number (option_and_then whole (get (codes "process") d))

-- The name at `object`.
unfoldable pub name_in : Data → Option (List ℕ)
name_in d = option_and_then (when is_name) (text_at (codes "object") d)

-- The kind of object at `kind`.
unfoldable pub kind_in : Data → Option Kind
kind_in d = option_and_then (beside kind_names) (text_at (codes "kind") d)

-- The number that an object of the kind starts with: 0 where the declaration gives none. It may give one only at a kind
-- that starts with a number.
abbrev pub start_from : Kind → Option Data → Option ℤ
start_from kind None = Some (pos 0)
start_from kind (Some d) = if starts_with_number kind then whole d else None

-- The number at `start`.
unfoldable pub start_at : Kind → Data → Option ℤ
start_at kind d = start_from kind (get (codes "start") d)

-- What makes the operation of its arguments, by the word at `op`.
unfoldable pub maker_at : Kind → Data → Option (List ℤ → Option Op)
maker_at kind d = option_and_then (beside (operations kind)) (text_at (codes "op") d)

-- The whole numbers of an array, where all its items are.
abbrev pub wholes : Items → Option (List ℤ)
wholes no_items = Some []
wholes (item d ds) = option_and_then (λ x. option_map (λ xs. x ∷ xs) (wholes ds)) (whole d)

-- The arguments: absent, there are none.
abbrev pub arguments_of : Option Data → Option (List ℤ)
arguments_of None = Some []
arguments_of (Some d) = option_and_then wholes (as_array d)

-- The whole numbers at `args`.
unfoldable pub arguments_in : Data → Option (List ℤ)
arguments_in d = arguments_of (get (codes "args") d)

-- A reply: `"ok"`, a whole number, a truth value or null.
abbrev pub reply_of : Data → Option Reply
reply_of null = Some Empty
reply_of (boolean b) = Some (Flag b)
reply_of (number n) = option_map Int (as_i64 n)
reply_of (string s) = if bytes_eq s (codes "ok") then Some Okay else None
reply_of (array ds) = None
reply_of (object ms) = None

-- The reply at `result`.
unfoldable pub reply_in : Data → Option Reply
reply_in d = option_and_then reply_of (get (codes "result") d)

-- ---- parts that need a part before them

-- The number that a declared object starts with.
abbrev pub start_in : Data → Option ℤ
start_in d = option_and_then (λ kind. start_at kind d) (kind_in d)

-- The kind of the object that the line names, which is declared before.
abbrev pub declared_kind : (List ℕ → Option Kind) → Data → Option Kind
declared_kind known d = option_and_then known (name_in d)

-- What makes the operation of a call line, by the kind of its object.
abbrev pub maker_in : (List ℕ → Option Kind) → Data → Option (List ℤ → Option Op)
maker_in known d = option_and_then (λ kind. maker_at kind d) (declared_kind known d)

-- The operation of a call line with its arguments.
abbrev pub op_in : (List ℕ → Option Kind) → Data → Option Op
op_in known d = option_and_then (λ make. option_and_then make (arguments_in d)) (maker_in known d)

-- The operation that is made of the arguments, or what is wrong with them.
abbrev pub op_from : Option (List ℤ → Option Op) → Option (List ℤ) → Result Op Cause
op_from None args = Err causes.BadOp
op_from (Some make) args = ok_or (option_and_then make args) causes.BadArgs

-- The operation of a call line on an object of the kind, or what is wrong with it.
abbrev pub op_at : Kind → Data → Result Op Cause
op_at kind d = op_from (maker_at kind d) (arguments_in d)
